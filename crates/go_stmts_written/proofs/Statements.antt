-- Statements over their parts: what parts are told, how they are laid out, and the node that is built.
use Rattle.std.proofs.Common.{◌≡◌, refl, sym, subst, false, ℕ, zero, suc, List, [], ◌∷◌, map, Option, Some, None}
use Rattle.std.specs.Prelude.{take, nat_lt}
use Rattle.go_grammar.specs.declared.kind.Kind.{Kind}
use Rattle.go_grammar.specs.declared.kind.Kind.TheVariants as kind
use Rattle.go_grammar.specs.declared.kind.Sort.TheVariants as declaring
use Rattle.go_grammar.specs.Grammar.{count}
use Rattle.go_grammar.specs.Trees.{Trees}
use Rattle.go_typed.specs.declared.form.Form.{Form}
use Rattle.go_typed.specs.declared.form.Form.TheVariants as form
use Rattle.go_typed.specs.Trees.{typed, form_of, parts_of, list_of}
use Rattle.go_typed.specs.Trees as sort
use Rattle.go_exprs_rules.specs.declared.fault.TypeFault.{TypeFault}
use Rattle.go_exprs_rules.specs.Scopes.{Scope, Hint, value, several, type_place}
use Rattle.go_exprs_rules.specs.Settling.{Part}
use Rattle.go_exprs_rules.specs.Tables.{Parts, held, all_held, first_cut, made}
use Rattle.go_stmts_defs.specs.Assigning.{Taking, takes, stands}
use Rattle.go_stmts_defs.specs.Frames.{Frame, Locals, declared_type, rights_of}
use Rattle.go_tree.specs.declared.object.Object.{Object}
use Rattle.go_tree.specs.declared.object.Object.TheVariants as object
use Rattle.go_types.specs.Trees.{TypeTree}
use Rattle.go_exprs_rules.specs.Names.{declared_form}
use Rattle.go_exprs_rules.specs.TypeNodes.{is_field_name}
use Rattle.go_stmts_defs.specs.Laying.{alone_or_value, behind_names, specification_told, first_then, told, new_or_known, loop_form, first_loop_form, form_by, type_name, new_form, with_form, new_name, type_number, type_sort, is_values, typed_or_not, specification_parts, names_count, specified_names, all_names, is_group, specifications, header_parts, if_parts, switch_parts, loop_header, for_parts, without_absent, layout}
use Rattle.go_stmts_defs.specs.Rules.{taking, given_part, given_optional, all_given, built_by}
use Rattle.go_stmts_written.specs.Named.{StandsIsNamed, RightsAreNamed, NodeIsNamed}
use Rattle.go_stmts_written.proofs.Said.{MaybePart, PartsNamed, HintNamed, PartIsNamed, FormIsNamed, IsNameWhere, TypesNamed, TakingNamed, TakingsNamed, LocalsNamed}
use Rattle.go_stmts_written.proofs.Values.{branch, inner_named, list_named, row_named, given_named}
use Rattle.go_stmts_written.proofs.Nodes.{append_named, held_named, all_held_named, first_cut_named, behind_named}
use Rattle.go_stmts_written.proofs.Assigning.{taking_named}

pub declared_plain : (s : Scope) (o : Option Object) → is_field_name (declared_form s o) ≡ false
declared_plain s None = refl
declared_plain s (Some object.Import) = refl
declared_plain s (Some (object.Predeclared p)) = refl
declared_plain s (Some (object.Package n)) = refl
declared_plain s (Some (object.Local f n)) = refl

-- ---- the form of a node

loop_plain : (x : Option Part) → is_field_name (loop_form x) ≡ false
loop_plain (Some (typed (form.Held kind.Range) i j l ps)) = refl
loop_plain (Some (typed (form.Held kind.AssigningRange) i j l ps)) = refl
loop_plain (Some (typed (form.Held kind.DefiningRange) i j l ps)) = refl
loop_plain x = refl

first_loop_plain : (xs : Parts) → is_field_name (first_loop_form xs) ≡ false
first_loop_plain [] = refl
first_loop_plain (x ∷ xs) = loop_plain x

pub form_named : (texts : ℕ → List ℕ) (k : Kind) (i : ℕ) (xs : Parts) → NodeIsNamed texts k i → FormIsNamed texts (form_by k xs) i
form_named texts kind.For i xs w = subst (λ b. IsNameWhere b (texts i)) (sym (first_loop_plain xs)) tt
form_named texts kind.DeclaredName i xs w = w
form_named texts (kind.Declaration declaring.Constant) i xs w = tt
form_named texts (kind.Declaration declaring.Type) i xs w = tt
form_named texts (kind.Declaration declaring.Variable) i xs w = tt
form_named texts (kind.Specification declaring.Constant) i xs w = tt
form_named texts (kind.Specification declaring.Type) i xs w = tt
form_named texts (kind.Specification declaring.Variable) i xs w = tt
form_named texts k i xs w = tt

-- a node that only holds parts
pub held_form_named : (texts : ℕ → List ℕ) (k : Kind) (i : ℕ) → NodeIsNamed texts k i → FormIsNamed texts (form.Held k) i
held_form_named texts kind.DeclaredName i w = w
held_form_named texts k i w = tt

module _ (texts : ℕ → List ℕ) where
  -- ---- what a part is told

  alone_named : (ps : Trees) (h : Hint) → HintNamed h → HintNamed (alone_or_value ps h)
  alone_named ps several w = branch (HintNamed) (nat_lt 1 (count ps)) value several tt tt
  alone_named ps h w = w

  names_named : (k : Kind) (h : Hint) → HintNamed h → HintNamed (behind_names k h)
  names_named kind.TypedValues h w = w
  names_named kind.Values h w = w
  names_named k h w = tt

  specification_named : (h : Hint) (xs : Parts) (k : Kind) → HintNamed h → HintNamed (specification_told h xs k)
  specification_named h [] k w = tt
  specification_named h (x ∷ xs) k w = names_named k h w

  then_named : (g h : Hint) (xs : Parts) → HintNamed g → HintNamed h → HintNamed (first_then g h xs)
  then_named g h [] v w = v
  then_named g h (x ∷ xs) v w = w

  pub told_named : (n : Kind) (h : Hint) (ps : Trees) (xs : Parts) (k : Kind) → HintNamed h → HintNamed (told n h ps xs k)
  told_named (kind.Specification declaring.Type) h ps xs k w = tt
  told_named (kind.Specification declaring.Variable) h ps xs k w = specification_named several xs k tt
  told_named (kind.Specification declaring.Constant) h ps xs k w = specification_named value xs k tt
  told_named kind.TypedValues h ps xs k w = then_named type_place h xs tt w
  told_named kind.Values h ps xs k w = w
  told_named kind.ExpressionList h ps xs k w = alone_named ps h w
  told_named kind.Assignment h ps xs k w = then_named _ several xs tt tt
  told_named kind.Define h ps xs k w = then_named _ several xs tt tt
  told_named n h ps xs k w = tt

  -- ---- layouts

  new_form_named : (ls : Locals) (f : Form) (w : List ℕ) → IsNameWhere (is_field_name f) w → IsNameWhere (is_field_name (new_form ls f)) w
  new_form_named ls (form.Declared n) w h = by (declared_type ls n)
    where
      by : (o : Option TypeTree) → IsNameWhere (is_field_name (new_or_known n o)) w
      by None = tt
      by (Some t) = tt
  new_form_named ls f w h = h

  formed_named : (ls : Locals) (x : Part) → PartIsNamed texts x → PartIsNamed texts (with_form (new_form ls) x)
  formed_named ls (typed f i j l ps) w = (w.0, w.1, new_form_named ls f (texts i) w.2)

  new_named : (ls : Locals) (x : Option Part) → MaybePart texts x → MaybePart texts (new_name ls x)
  new_named ls None w = tt
  new_named ls (Some x) w = formed_named ls x w

  all_new_named : (ls : Locals) (xs : Parts) → PartsNamed texts xs → PartsNamed texts (map (new_name ls) xs)
  all_new_named ls [] w = tt
  all_new_named ls (x ∷ xs) w = (new_named ls x w.0, all_new_named ls xs w.1)

  number_named : (m : Option ℕ) → StandsIsNamed (type_sort m)
  number_named None = tt
  number_named (Some m) = tt

  type_name_named : (s : Frame) (i : ℕ) → PartIsNamed texts (type_name s i)
  type_name_named s i = (number_named (type_number s i), tt, subst (λ b. IsNameWhere b (texts i)) (sym (declared_plain s.around (s.around.objects i))) tt)

  typed_named : (x : Option Part) → MaybePart texts x → PartsNamed texts (typed_or_not x)
  typed_named None w = (tt, tt)
  typed_named (Some x) w = branch (PartsNamed texts) (is_values (Some x)) (None ∷ held (Some x)) (held (Some x)) (tt, held_named texts (Some x) w) (held_named texts (Some x) w)

  specified_named : (xs : Parts) → PartsNamed texts xs → PartsNamed texts (specification_parts xs)
  specified_named (ns ∷ x ∷ []) w =
      append_named texts (held ns) (first_cut (typed_or_not x)) (held_named texts ns w.0) (first_cut_named texts (typed_or_not x) (typed_named x w.1.0))
  specified_named xs w = w

  first_named : (n : ℕ) (xs : Parts) → PartsNamed texts xs → PartsNamed texts (take n xs)
  first_named zero xs w = tt
  first_named (suc n) [] w = tt
  first_named (suc n) (x ∷ xs) w = (w.0, first_named n xs w.1)

  inner_list : (x : Part) → PartIsNamed texts x → PartsNamed texts (list_of (parts_of x))
  inner_list x w = list_named texts (parts_of x) (inner_named texts x w)

  one_names_named : (x : Option Part) → MaybePart texts x → PartsNamed texts (specified_names x)
  one_names_named None w = tt
  one_names_named (Some x) w = first_named (names_count (form_of x)) (list_of (parts_of x)) (inner_list x w)

  all_names_named : (xs : Parts) → PartsNamed texts xs → PartsNamed texts (all_names xs)
  all_names_named [] w = tt
  all_names_named (x ∷ xs) w = append_named texts (specified_names x) (all_names xs) (one_names_named x w.0) (all_names_named xs w.1)

  group_named : (xs : Parts) → PartsNamed texts xs → PartsNamed texts (specifications xs)
  group_named (Some x ∷ []) w = branch (PartsNamed texts) (is_group (form_of x)) (list_of (parts_of x)) (Some x ∷ []) (inner_list x w.0) w
  group_named xs w = w

  header_named : (x : Option Part) → MaybePart texts x → PartsNamed texts (header_parts x)
  header_named (Some (typed (form.Held kind.LateCondition) i j l ps)) w = (tt, list_named texts ps w.1)
  header_named (Some (typed (form.Held kind.LateTag) i j l ps)) w = (tt, list_named texts ps w.1)
  header_named (Some (typed (form.Held kind.InitializedCondition) i j l ps)) w = list_named texts ps w.1
  header_named (Some (typed (form.Held kind.InitializedTag) i j l ps)) w = list_named texts ps w.1
  header_named x w = (tt, (w, tt))

  if_named : (xs : Parts) → PartsNamed texts xs → PartsNamed texts (if_parts xs)
  if_named (h ∷ b ∷ e ∷ []) w = append_named texts (header_parts h) (b ∷ held e) (header_named h w.0) (w.1.0, held_named texts e w.1.1.0)
  if_named xs w = w

  switch_named : (xs : Parts) → PartsNamed texts xs → PartsNamed texts (switch_parts xs)
  switch_named [] w = tt
  switch_named (h ∷ xs) w = append_named texts (header_parts h) xs (header_named h w.0) w.1

  loop_header_named : (x : Option Part) → MaybePart texts x → PartsNamed texts (loop_header x)
  loop_header_named (Some (typed (form.Held kind.ForClause) i j l ps)) w = (tt, list_named texts ps w.1)
  loop_header_named (Some (typed (form.Held k) i j l ps)) w = list_named texts ps w.1
  loop_header_named x w = (tt, (w, (tt, tt)))

  for_named : (xs : Parts) → PartsNamed texts xs → PartsNamed texts (for_parts xs)
  for_named [] w = tt
  for_named (h ∷ xs) w = append_named texts (loop_header h) xs (loop_header_named h w.0) w.1

  absent_named : (xs : Parts) → PartsNamed texts xs → PartsNamed texts (without_absent xs)
  absent_named [] w = tt
  absent_named (None ∷ xs) w = absent_named xs w.1
  absent_named (Some x ∷ xs) w = (w.0, absent_named xs w.1)

  pub layout_named : (s : Frame) (k : Kind) (i : ℕ) (xs : Parts) → PartsNamed texts xs → PartsNamed texts (layout s k i xs)
  layout_named s kind.Targets i xs w = all_held_named texts xs w
  layout_named s kind.NewNames i xs w = all_new_named s.locals (all_held xs) (all_held_named texts xs w)
  layout_named s kind.Values i xs w = all_held_named texts xs w
  layout_named s kind.TypedValues i xs w = all_held_named texts xs w
  layout_named s (kind.Specification declaring.Type) i xs w = (type_name_named s i, w)
  layout_named s (kind.Specification declaring.Variable) i xs w = specified_named xs w
  layout_named s (kind.Specification declaring.Constant) i xs w = specified_named xs w
  layout_named s (kind.Declaration declaring.Variable) i xs w = group_named xs w
  layout_named s (kind.Declaration declaring.Constant) i xs w = all_names_named (specifications xs) (group_named xs w)
  layout_named s (kind.Declaration declaring.Type) i xs w = all_names_named (specifications xs) (group_named xs w)
  layout_named s kind.Assignment i xs w = all_held_named texts xs w
  layout_named s kind.Define i xs w = all_held_named texts xs w
  layout_named s kind.Case i xs w = all_held_named texts xs w
  layout_named s kind.Return i xs w = absent_named (all_held xs) (all_held_named texts xs w)
  layout_named s kind.If i xs w = if_named xs w
  layout_named s kind.Switch i xs w = switch_named xs w
  layout_named s kind.For i xs w = for_named xs w
  layout_named s kind.AssigningRange i xs w = all_held_named texts xs w
  layout_named s kind.DefiningRange i xs w = all_held_named texts xs w
  layout_named s kind.FunctionDeclaration i xs w = absent_named _ (behind_named texts xs w)
  layout_named s k i xs w = w

  -- ---- what parts take

  given_part_named : (k : Taking) (x : Part) → TakingNamed k → PartIsNamed texts x → PartIsNamed texts (given_part k x)
  given_part_named (takes k) x w v = given_named texts k w x v
  given_part_named (stands y) (typed f i j l ps) w v = (w, v.1, v.2)

  given_optional_named : (k : Taking) (x : Option Part) → TakingNamed k → MaybePart texts x → MaybePart texts (given_optional k x)
  given_optional_named k None w v = tt
  given_optional_named k (Some x) w v = given_part_named k x w v

  all_given_named : (ks : List Taking) (ys : Parts) → TakingsNamed ks → PartsNamed texts ys → PartsNamed texts (all_given ks ys)
  all_given_named (k ∷ ks) (y ∷ ys) w v = (given_optional_named k y w.0 v.0, all_given_named ks ys w.1 v.1)
  all_given_named [] ys w v = v
  all_given_named (k ∷ ks) [] w v = tt

  pub made_named : (f : Form) (i j : ℕ) (ys zs : Parts) → FormIsNamed texts f i → PartsNamed texts zs → PartIsNamed texts (made f i j sort.Nothing ys zs)
  made_named f i j ys zs n w = (tt, row_named texts zs w, n)

module _ (texts : ℕ → List ℕ) (s : Frame) (a : RightsAreNamed (rights_of s)) (ls : LocalsNamed s.locals) (tag : StandsIsNamed s.tag) (rs : TypesNamed s.results) where
  pub built_named : (k : Kind) (f : Form) (i j : ℕ) (ys : Parts) (own : List TypeFault) → FormIsNamed texts f i → PartsNamed texts ys → PartIsNamed texts (built_by s k f i j ys own)
  built_named k f i j ys [] n w = made_named texts f i j ys (all_given (taking s k f ys) ys) n (all_given_named texts (taking s k f ys) ys (taking_named texts s a ls tag rs k f ys w) w)
  built_named k f i j ys (e ∷ es) n w = made_named texts f i j ys ys n w
