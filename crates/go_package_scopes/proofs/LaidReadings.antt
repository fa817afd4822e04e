-- The nodes of a typed body lie as those of its tree do, and each name that it declares has its room.
use Rattle.std.proofs.Common.{◌≡◌, ℕ, zero, suc, ◌<◌, ◌≤◌, Bool, true, false, List, [], ◌∷◌, ◌++◌, map, Option, Some, None, refl, sym, subst, arith}
use Rattle.std.specs.Prelude.{if◌then◌else◌}
use Rattle.go_grammar.specs.declared.kind.Kind.{Kind}
use Rattle.go_grammar.specs.declared.kind.Kind.TheVariants as kind
use Rattle.go_grammar.specs.declared.kind.Sort.TheVariants as declaring
use Rattle.go_grammar.specs.Trees.{Tree, node, Trees, kind_of, first, last}
use Rattle.go_grammar.specs.Trees as syntax
use Rattle.go_tree.specs.Views.{Tiles}
use Rattle.go_tree.specs.declared.context.Scope.{Scope as Extent}
use Rattle.go_types.specs.Trees.{TypeTree}
use Rattle.go_typed.specs.declared.form.Form.{Form}
use Rattle.go_typed.specs.declared.form.Form.TheVariants as form
use Rattle.go_typed.specs.Trees.{Label, typed, Typeds, row, list_of, first_of, last_of, form_of, sort_of, parts_of}
use Rattle.go_typed.specs.Trees as trees
use Rattle.go_exprs_rules.specs.Names.{declared_form}
use Rattle.go_exprs_rules.specs.Scopes.{Hint}
use Rattle.go_exprs_rules.specs.Settling.{Part}
use Rattle.go_exprs_rules.specs.Tables.{Parts, held, all_held, first_cut, label}
use Rattle.go_exprs_rules.specs.Typing.{typing}
use Rattle.go_stmts_defs.specs.Assigning.{Taking, takes, stands}
use Rattle.go_stmts_defs.specs.Frames.{Frame, Locals, scope_of, declared_type}
use Rattle.go_stmts_defs.specs.Laying.{told, layout, form_by, new_or_known, new_form, new_name, is_values, typed_or_not, specification_parts, specifications}
use Rattle.go_stmts_defs.specs.Laying.{header_parts, if_parts, switch_parts, loop_header, for_parts, without_absent, loop_form, first_loop_form}
use Rattle.go_stmts_defs.specs.Reading.{Found, is_list, is_declared_name, list_node, name_node, holding, holdings}
use Rattle.go_stmts_defs.specs.Reading.{Reading, read, Readings, all_read, after}
use Rattle.go_stmts_defs.specs.Rules.{given_part, all_given}
use Rattle.go_stmts_scopes.specs.Runs.{Unless}
use Rattle.go_stmts_scopes.specs.Standing.{behind_part, room_in}
use Rattle.go_stmts_scopes.specs.Statements.{tree_in}
use Rattle.go_package_scopes.specs.Laid.{is_shut, NameHasRoom, Laid, AllLaid}
use Rattle.go_package_scopes.proofs.Laid.{either_parts, last_given, given_laid, EachLaid, each_wider, append_laid, one_laid, exact, row_laid, list_laid, held_laid, all_held_laid, first_cut_laid, wider}
use Rattle.go_package_scopes.proofs.LaidTypings.{Quiet, quieter, node_laid, typing_laid, declared_stays, stays}
use Rattle.go_package_scopes.proofs.Ranges.{Set, AllSet, tiles_order}
use Rattle.go_package_scopes.proofs.Roomed.{is_loop, room_at}

-- ---- what is read

abbrev pub faults_in : Reading → Found
faults_in (read x fs s) = fs

abbrev pub frame_in : Reading → Frame
frame_in (read x fs s) = s

abbrev pub parts_in : Readings → Parts
parts_in (all_read xs fs s) = xs

abbrev pub frame_all : Readings → Frame
frame_all (all_read xs fs s) = s

pub after_read : (r : Reading) (next : Part → Found → Frame → Readings) → after r next ≡ next (tree_in r) (faults_in r) (frame_in r)
after_read (read x fs s) next = refl

-- ---- what a part takes

last_part : (k : Taking) (x : Part) → last_of (given_part k x) ≡ last_of x
last_part (takes k) x = last_given k x
last_part (stands y) (typed f i j l ps) = refl

pub behind_given : (n : ℕ) (ks : List Taking) (ys : Parts) → behind_part n (row (all_given ks ys)) ≡ behind_part n (row ys)
behind_given n [] ys = refl
behind_given n (k ∷ ks) [] = refl
behind_given zero (k ∷ ks) (None ∷ ys) = refl
behind_given (suc n) (k ∷ ks) (None ∷ ys) = refl
behind_given zero (k ∷ ks) (Some y ∷ ys) = last_part k y
behind_given (suc n) (k ∷ ks) (Some y ∷ ys) = behind_given n ks ys

-- ---- forms

pub form_room : (r : Extent) (k : Kind) (xs : Parts) (i j : ℕ) (ps : Typeds TypeTree) → is_loop k ≡ false → room_in r (form_by k xs) i j ps ≡ room_at r k i j
form_room r kind.For xs i j ps e = absurd (let z : true ≡ false = e in cc)
form_room r kind.Define xs i j ps e = refl
form_room r kind.Block xs i j ps e = refl
form_room r kind.If xs i j ps e = refl
form_room r kind.Switch xs i j ps e = refl
form_room r kind.Case xs i j ps e = refl
form_room r kind.Default xs i j ps e = refl
form_room r (kind.Specification declaring.Variable) xs i j ps e = refl
form_room r (kind.Specification declaring.Constant) xs i j ps e = refl
form_room r (kind.Specification declaring.Type) xs i j ps e = refl
form_room r (kind.Declaration declaring.Variable) xs i j ps e = refl
form_room r (kind.Declaration declaring.Constant) xs i j ps e = refl
form_room r (kind.Declaration declaring.Type) xs i j ps e = refl
form_room r k xs i j ps e = refl

-- all but what declares constants or types
abbrev pub is_told : Kind → Bool
is_told (kind.Specification declaring.Constant) = false
is_told (kind.Specification declaring.Type) = false
is_told (kind.Declaration declaring.Constant) = false
is_told (kind.Declaration declaring.Type) = false
is_told kind.FunctionDeclaration = false
is_told k = true

module _ (D : Extent → ℕ → Type 0) where
  loop_names : (r : Extent) (i : ℕ) (x : Option Part) → NameHasRoom D r (loop_form x) i
  loop_names r i (Some (typed (form.Held kind.Range) a b l ps)) = tt
  loop_names r i (Some (typed (form.Held kind.AssigningRange) a b l ps)) = tt
  loop_names r i (Some (typed (form.Held kind.DefiningRange) a b l ps)) = tt
  loop_names r i x = tt

  first_names : (r : Extent) (i : ℕ) (xs : Parts) → NameHasRoom D r (first_loop_form xs) i
  first_names r i [] = tt
  first_names r i (x ∷ xs) = loop_names r i x

  pub form_names : (r : Extent) (k : Kind) (i : ℕ) (xs : Parts) → NameHasRoom D r (form_by k xs) i
  form_names r kind.For i xs = first_names r i xs
  form_names r (kind.Declaration declaring.Variable) i xs = tt
  form_names r (kind.Declaration declaring.Constant) i xs = tt
  form_names r (kind.Declaration declaring.Type) i xs = tt
  form_names r (kind.Specification declaring.Variable) i xs = tt
  form_names r (kind.Specification declaring.Constant) i xs = tt
  form_names r (kind.Specification declaring.Type) i xs = tt
  form_names r k i xs = tt

  -- ---- how parts are laid out

  -- the first part, and the others
  split_laid : (r : Extent) (a z : ℕ) (x : Option Part) (xs : Parts) → EachLaid D r a z (x ∷ xs) → (m : ℕ) × EachLaid D r a m (x ∷ []) × EachLaid D r m z xs
  split_laid r a z None xs h = (a, (let u : a ≤ a = omega arith in u), h)
  split_laid r a z (Some x) xs h = (last_of x, one_laid D r a (last_of x) x (exact D r a z x h.0), h.1)

  join_laid : (r : Extent) (a m z : ℕ) (x : Option Part) (xs : Parts) → EachLaid D r a m (x ∷ []) → EachLaid D r m z xs → EachLaid D r a z (x ∷ xs)
  join_laid r a m z x xs h g = append_laid D r a m z (x ∷ []) xs h g

  option_laid : (r : Extent) (a b : ℕ) (x : Option Part) → EachLaid D r a b (x ∷ []) → EachLaid D r a b (held x)
  option_laid r a b None h = h
  option_laid r a b (Some x) h = held_laid D r a b x h.0

  absent_laid : (r : Extent) (a b : ℕ) (xs : Parts) → EachLaid D r a b xs → EachLaid D r a b (without_absent xs)
  absent_laid r a b [] h = h
  absent_laid r a b (None ∷ xs) h = absent_laid r a b xs h
  absent_laid r a b (Some x ∷ xs) h = (h.0, absent_laid r (last_of x) b xs h.1)

  known_names : (r : Extent) (i n : ℕ) (t : Option TypeTree) → D r i → NameHasRoom D r (new_or_known n t) i
  known_names r i n None h = h
  known_names r i n (Some t) h = tt

  new_names : (r : Extent) (ls : Locals) (f : Form) (i : ℕ) → NameHasRoom D r f i → NameHasRoom D r (new_form ls f) i
  new_names r ls (form.Declared n) i h = known_names r i n (declared_type ls n) h
  new_names r ls f i h = h

  new_shut : (ls : Locals) (n : ℕ) (t : Option TypeTree) (A : Type 0) → Unless (is_shut (new_or_known n t)) A
  new_shut ls n None A = tt
  new_shut ls n (Some t) A = tt

  new_parts : (r : Extent) (ls : Locals) (f : Form) (i j : ℕ) (ps : Typeds TypeTree) → Unless (is_shut f) (AllLaid D (room_in r f i j ps) i j ps) → Unless (is_shut (new_form ls f)) (AllLaid D (room_in r (new_form ls f) i j ps) i j ps)
  new_parts r ls (form.Declared n) i j ps h = new_shut ls n (declared_type ls n) (AllLaid D (room_in r (new_or_known n (declared_type ls n)) i j ps) i j ps)
  new_parts r ls f i j ps h = h

  all_new_laid : (r : Extent) (ls : Locals) (a b : ℕ) (xs : Parts) → EachLaid D r a b xs → EachLaid D r a b (map (new_name ls) xs)
  all_new_laid r ls a b [] h = h
  all_new_laid r ls a b (None ∷ xs) h = all_new_laid r ls a b xs h
  all_new_laid r ls a b (Some (typed f i j l ps) ∷ xs) h = ((h.0.0, h.0.1, h.0.2, new_names r ls f i h.0.3, new_parts r ls f i j ps h.0.4), all_new_laid r ls j b xs h.1)

  optional_laid : (r : Extent) (a b : ℕ) (x : Option Part) → EachLaid D r a b (x ∷ []) → EachLaid D r a b (typed_or_not x)
  optional_laid r a b None h = h
  optional_laid r a b (Some x) h = either_parts (EachLaid D r a b) (is_values (Some x)) (None ∷ held (Some x)) (held (Some x)) (held_laid D r a b x h.0) (held_laid D r a b x h.0)

  specification_laid : (r : Extent) (a b : ℕ) (xs : Parts) → EachLaid D r a b xs → EachLaid D r a b (specification_parts xs)
  specification_laid r a b [] h = h
  specification_laid r a b (x ∷ []) h = h
  specification_laid r a b (ns ∷ x ∷ []) h =
      let s = split_laid r a b ns (x ∷ []) h in
      append_laid D r a s.0 b (held ns) (first_cut (typed_or_not x)) (option_laid r a s.0 ns s.1) (first_cut_laid D r s.0 b (typed_or_not x) (optional_laid r s.0 b x s.2))
  specification_laid r a b (x ∷ y ∷ z ∷ xs) h = h

  group_laid : (r : Extent) (a b : ℕ) (xs : Parts) → EachLaid D r a b xs → EachLaid D r a b (specifications xs)
  group_laid r a b [] h = h
  group_laid r a b (None ∷ xs) h = h
  group_laid r a b (Some (typed (form.Held (kind.Group s)) i j l ps) ∷ []) h = each_wider D r i j a b (list_of ps) h.0.0 h.0.2 (list_laid D r i j ps h.0.4)
  group_laid r a b (Some (typed (form.Held k) i j l ps) ∷ []) h = h
  group_laid r a b (Some (typed f i j l ps) ∷ []) h = h
  group_laid r a b (Some x ∷ y ∷ xs) h = h

  pub inner_laid : (r : Extent) (a b : ℕ) (k : Kind) (i j : ℕ) (l : Label TypeTree) (ps : Typeds TypeTree) → Laid D r a b (typed (form.Held k) i j l ps) → EachLaid D r a b (list_of ps)
  inner_laid r a b k i j l ps h = each_wider D r i j a b (list_of ps) h.0 h.2 (list_laid D r i j ps h.4)

  header_laid : (r : Extent) (a b : ℕ) (x : Option Part) → EachLaid D r a b (x ∷ []) → EachLaid D r a b (header_parts x)
  header_laid r a b (Some (typed (form.Held kind.LateCondition) i j l ps)) h = inner_laid r a b kind.LateCondition i j l ps h.0
  header_laid r a b (Some (typed (form.Held kind.LateTag) i j l ps)) h = inner_laid r a b kind.LateTag i j l ps h.0
  header_laid r a b (Some (typed (form.Held kind.InitializedCondition) i j l ps)) h = inner_laid r a b kind.InitializedCondition i j l ps h.0
  header_laid r a b (Some (typed (form.Held kind.InitializedTag) i j l ps)) h = inner_laid r a b kind.InitializedTag i j l ps h.0
  header_laid r a b x h = h

  pub loop_header_laid : (r : Extent) (a b : ℕ) (x : Option Part) → EachLaid D r a b (x ∷ []) → EachLaid D r a b (loop_header x)
  loop_header_laid r a b None h = h
  loop_header_laid r a b (Some (typed (form.Held kind.ForClause) i j l ps)) h = inner_laid r a b kind.ForClause i j l ps h.0
  loop_header_laid r a b (Some (typed (form.Held k) i j l ps)) h = inner_laid r a b k i j l ps h.0
  loop_header_laid r a b (Some x) h = h

  if_laid : (r : Extent) (a b : ℕ) (xs : Parts) → EachLaid D r a b xs → EachLaid D r a b (if_parts xs)
  if_laid r a b [] h = h
  if_laid r a b (x ∷ []) h = h
  if_laid r a b (x ∷ y ∷ []) h = h
  if_laid r a b (c ∷ t ∷ e ∷ []) h =
      let x = split_laid r a b c (t ∷ e ∷ []) h in
      let y = split_laid r x.0 b t (e ∷ []) x.2 in
      append_laid D r a x.0 b (header_parts c) (t ∷ held e) (header_laid r a x.0 c x.1) (join_laid r x.0 y.0 b t (held e) y.1 (option_laid r y.0 b e y.2))
  if_laid r a b (c ∷ t ∷ e ∷ z ∷ zs) h = h

  switch_laid : (r : Extent) (a b : ℕ) (xs : Parts) → EachLaid D r a b xs → EachLaid D r a b (switch_parts xs)
  switch_laid r a b [] h = h
  switch_laid r a b (x ∷ xs) h = let s = split_laid r a b x xs h in append_laid D r a s.0 b (header_parts x) xs (header_laid r a s.0 x s.1) s.2

  for_laid : (r : Extent) (a b : ℕ) (xs : Parts) → EachLaid D r a b xs → EachLaid D r a b (for_parts xs)
  for_laid r a b [] h = h
  for_laid r a b (x ∷ xs) h = let s = split_laid r a b x xs h in append_laid D r a s.0 b (loop_header x) xs (loop_header_laid r a s.0 x s.1) s.2

  pub layout_laid : (r : Extent) (s : Frame) (k : Kind) (i a b : ℕ) (xs : Parts) → is_told k ≡ true → EachLaid D r a b xs → EachLaid D r a b (layout s k i xs)
  layout_laid r s kind.Targets i a b xs e h = all_held_laid D r a b xs h
  layout_laid r s kind.NewNames i a b xs e h = all_new_laid r s.locals a b (all_held xs) (all_held_laid D r a b xs h)
  layout_laid r s kind.Values i a b xs e h = all_held_laid D r a b xs h
  layout_laid r s kind.TypedValues i a b xs e h = all_held_laid D r a b xs h
  layout_laid r s (kind.Specification declaring.Type) i a b xs e h = absurd (let z : false ≡ true = e in cc)
  layout_laid r s (kind.Specification declaring.Constant) i a b xs e h = absurd (let z : false ≡ true = e in cc)
  layout_laid r s (kind.Specification declaring.Variable) i a b xs e h = specification_laid r a b xs h
  layout_laid r s (kind.Declaration declaring.Variable) i a b xs e h = group_laid r a b xs h
  layout_laid r s (kind.Declaration declaring.Constant) i a b xs e h = absurd (let z : false ≡ true = e in cc)
  layout_laid r s (kind.Declaration declaring.Type) i a b xs e h = absurd (let z : false ≡ true = e in cc)
  layout_laid r s kind.Assignment i a b xs e h = all_held_laid D r a b xs h
  layout_laid r s kind.Define i a b xs e h = all_held_laid D r a b xs h
  layout_laid r s kind.Case i a b xs e h = all_held_laid D r a b xs h
  layout_laid r s kind.Return i a b xs e h = absent_laid r a b (all_held xs) (all_held_laid D r a b xs h)
  layout_laid r s kind.If i a b xs e h = if_laid r a b xs h
  layout_laid r s kind.Switch i a b xs e h = switch_laid r a b xs h
  layout_laid r s kind.For i a b xs e h = for_laid r a b xs h
  layout_laid r s kind.AssigningRange i a b xs e h = all_held_laid D r a b xs h
  layout_laid r s kind.DefiningRange i a b xs e h = all_held_laid D r a b xs h
  layout_laid r s kind.FunctionDeclaration i a b xs e h = absurd (let z : false ≡ true = e in cc)
  layout_laid r s k i a b xs e h = h

  -- ---- parts without statements

  list_told : (k : Kind) → is_list k ≡ true → is_told k ≡ true
  list_told kind.NameList e = refl
  list_told kind.NewNames e = refl
  list_told kind.Targets e = refl
  list_told kind.ExpressionList e = refl
  list_told kind.TypedValues e = refl
  list_told kind.Values e = refl
  list_told k e = absurd (let z : false ≡ true = e in cc)

  pub choose : (P : Part → Type 0) (b : Bool) (x y : Part) → (b ≡ true → P x) → P y → P (if b then x else y)
  choose P true x y f h = f refl
  choose P false x y f h = h

  name_laid : (r : Extent) (s : Frame) (i j : ℕ) → i < j → D r i → Laid D r i j (name_node s i j)
  name_laid r s i j u d =
      let f : Form = declared_form s.around (s.around.objects i) in
      let v : i ≤ j = omega (arith, u) in
      node_laid D r f i j (label f trees.Nothing []) trees.none u d (subst (λ z. AllLaid D z i j trees.none) (sym (stays r f i j trees.none (declared_stays s.around (s.around.objects i)))) v)

  mutual
    pub holding_laid : (r : Extent) (s : Frame) (h : Hint) (t : Tree) → Set t → Quiet D r (first t) (last t) → Laid D r (first t) (last t) (holding s h t)
    holding_laid r s h (node k i j ps) g q =
        let u : i ≤ i = omega arith in
        let ys : Parts = layout s k i (holdings s k h ps [] ps) in
        choose (Laid D r i j) (is_list k) (list_node s k i j ys) (if is_declared_name k then name_node s i j else typing (scope_of s) h (node k i j ps))
        (λ e. node_laid D r (form.Held k) i j (label (form.Held k) trees.Nothing ys) (row ys) g.0 (q i u g.0)
        (row_laid D r i j ys (layout_laid r s k i i j (holdings s k h ps [] ps) (list_told k e) (holdings_laid r s k h ps [] ps i i j u g.1 g.2 q))))
        (choose (Laid D r i j) (is_declared_name k) (name_node s i j) (typing (scope_of s) h (node k i j ps)) (λ e. name_laid r s i j g.0 (q i u g.0)) (typing_laid D r (scope_of s) h (node k i j ps) g q))

    holdings_laid : (r : Extent) (s : Frame) (k : Kind) (h : Hint) (all : Trees) (xs : Parts) (ps : Trees) (a m j : ℕ) → EachLaid D r a m xs → Tiles m j ps → AllSet ps → Quiet D r m j
        → EachLaid D r a j (holdings s k h all xs ps)
    holdings_laid r s k h all xs syntax.none a m j g t u q = each_wider D r a m a j xs (omega arith) t g
    holdings_laid r s k h all xs (syntax.more p ps) a m j g t u q =
        let x : Part = holding s (told k h all xs (kind_of p)) p in
        let e : last p ≤ j = tiles_order (last p) j ps t.2 in
        let n : Laid D r (first p) (last p) x = holding_laid r s (told k h all xs (kind_of p)) p u.0 (quieter D r m j (first p) (last p) t.0 e q) in
        let w : Laid D r m (last p) x = wider D r (first p) (last p) m (last p) x t.0 (omega arith) n in
        holdings_laid r s k h all (xs ++ Some x ∷ []) ps a (last p) j (append_laid D r a m (last p) xs (Some x ∷ []) g (one_laid D r m (last p) x w)) t.2 u.1
        (quieter D r m j (last p) j (omega (arith, t.0, t.1)) (omega arith) q)
    holdings_laid r s k h all xs (syntax.skip ps) a m j g t u q =
        let v : m ≤ m = omega arith in holdings_laid r s k h all (xs ++ None ∷ []) ps a m j (append_laid D r a m m xs (None ∷ []) g v) t u q

  -- ---- what parts take

  part_laid : (r : Extent) (a b : ℕ) (k : Taking) (x : Part) → Laid D r a b x → Laid D r a b (given_part k x)
  part_laid r a b (takes k) x h = given_laid D k r a b x h
  part_laid r a b (stands y) (typed f i j l ps) h = h

  pub all_given_laid : (r : Extent) (a b : ℕ) (ks : List Taking) (ys : Parts) → EachLaid D r a b ys → EachLaid D r a b (all_given ks ys)
  all_given_laid r a b [] ys h = h
  all_given_laid r a b (k ∷ ks) [] h = h
  all_given_laid r a b (k ∷ ks) (None ∷ ys) h = all_given_laid r a b ks ys h
  all_given_laid r a b (k ∷ ks) (Some y ∷ ys) h = (part_laid r a b k y h.0, subst (λ m. EachLaid D r m b (all_given ks ys)) (sym (last_part k y)) (all_given_laid r (last_of y) b ks ys h.1))
