-- What is read of a derived body is good: the statements of each list stand in a row, as those of its syntax tree do.
use Rattle.std.proofs.Common.{◌≡◌, ◌∙◌, ℕ, zero, suc, ◌+◌, ◌<◌, ◌≤◌, Bool, true, false, if◌then◌else◌, List, [], ◌∷◌, ◌++◌, drop, length, map, Option, Some, None, refl, sym, ap, subst, arith, append_assoc, append-nil}
use Rattle.go_grammar.specs.declared.kind.Kind.{Kind}
use Rattle.go_grammar.specs.declared.kind.Kind.TheVariants as kind
use Rattle.go_grammar.specs.declared.kind.Sort.TheVariants as declaring
use Rattle.go_grammar.specs.Categories as category
use Rattle.go_grammar.specs.Trees.{Tree, node, Trees, kind_of, first, last}
use Rattle.go_grammar.specs.Trees as syntax
use Rattle.go_tree.specs.Views.{Tiles}
use Rattle.go_types.specs.Trees.{TypeTree}
use Rattle.go_typed.specs.declared.form.Form.{Form}
use Rattle.go_typed.specs.declared.form.Form.TheVariants as form
use Rattle.go_typed.specs.Forms.{is_statement_list}
use Rattle.go_typed.specs.Trees.{typed, row, list_of, first_of, last_of, form_of, parts_of}
use Rattle.go_exprs_rules.specs.declared.fault.TypeFault.{TypeFault}
use Rattle.go_exprs_rules.specs.Scopes.{Hint, value}
use Rattle.go_exprs_rules.specs.Settling.{Part}
use Rattle.go_exprs_rules.specs.Tables.{Parts, is_held, held, all_held, behind_first, first_cut}
use Rattle.go_exprs_rules.specs.Typing.{typing}
use Rattle.go_stmts_defs.specs.Frames.{Frame, Locals, scope_of, declared_type}
use Rattle.go_stmts_defs.specs.Laying.{told, layout, form_by, first_count, first_loop_form, loop_form, new_or_known, new_form, with_form, new_name, is_values, typed_or_not, specification_parts, names_count, type_name, specified_names, all_names, is_group, specifications}
use Rattle.go_stmts_defs.specs.Laying.{header_parts, if_parts, switch_parts, loop_header, for_parts, without_absent}
use Rattle.go_stmts_defs.specs.Reading.{Found, Reading, read, Readings, all_read, is_list, is_declared_name, is_statement, list_node, name_node, holding, holdings, held_faults, beginning, entering, repeated, left_out, left_out_faults, after, closed, reading, readings}
use Rattle.go_stmts_defs.specs.Assigning.{Taking, takes, stands}
use Rattle.go_stmts_defs.specs.Rules.{taking, own_faults, given_part, all_given, built_by}
use Rattle.go_function_places.proofs.Derived.{ahead, AreStatements, IsList, Set, AllSet, set-grows}
use Rattle.go_function_places.proofs.Good.{spans, Rises, Fits, Good, PartGood, EachGood, plain, given-good, first-given, last-given, good-row, good-list, good-behind, one-more, either-good, inner-good, held-good, all-held-good, first-cut-good, behind-first-good, take-good}
use Rattle.go_function_places.proofs.Typings.{declared-plain, typing-first, typing-last, typing-good}

-- what holds of both, and of the first one only where the test passes
either : (P : Part → Type 0) (b : Bool) (x y : Part) → (b ≡ true → P x) → P y → P (if b then x else y)
either P true x y f h = f refl
either P false x y f h = h

-- ---- parts that stand at the tokens of their trees

holding-first : (s : Frame) (h : Hint) (t : Tree) → first_of (holding s h t) ≡ first t
holding-first s h (node k i j ps) =
    either (λ x. first_of x ≡ i) (is_list k) (list_node s k i j (layout s k i (holdings s k h ps [] ps))) (if is_declared_name k then name_node s i j else typing (scope_of s) h (node k i j ps)) (λ e. refl)
    (either (λ x. first_of x ≡ i) (is_declared_name k) (name_node s i j) (typing (scope_of s) h (node k i j ps)) (λ e. refl) (typing-first (scope_of s) h (node k i j ps)))

holding-last : (s : Frame) (h : Hint) (t : Tree) → last_of (holding s h t) ≡ last t
holding-last s h (node k i j ps) =
    either (λ x. last_of x ≡ j) (is_list k) (list_node s k i j (layout s k i (holdings s k h ps [] ps))) (if is_declared_name k then name_node s i j else typing (scope_of s) h (node k i j ps)) (λ e. refl)
    (either (λ x. last_of x ≡ j) (is_declared_name k) (name_node s i j) (typing (scope_of s) h (node k i j ps)) (λ e. refl) (typing-last (scope_of s) h (node k i j ps)))

built-first : (s : Frame) (k : Kind) (f : Form) (i j : ℕ) (ys : Parts) (own : List TypeFault) → first_of (built_by s k f i j ys own) ≡ i
built-first s k f i j ys [] = refl
built-first s k f i j ys (e ∷ es) = refl

built-last : (s : Frame) (k : Kind) (f : Form) (i j : ℕ) (ys : Parts) (own : List TypeFault) → last_of (built_by s k f i j ys own) ≡ j
built-last s k f i j ys [] = refl
built-last s k f i j ys (e ∷ es) = refl

built-form : (s : Frame) (k : Kind) (f : Form) (i j : ℕ) (ys : Parts) (own : List TypeFault) → form_of (built_by s k f i j ys own) ≡ f
built-form s k f i j ys [] = refl
built-form s k f i j ys (e ∷ es) = refl

first-part : (k : Taking) (x : Part) → first_of (given_part k x) ≡ first_of x
first-part (takes k) x = first-given k x
first-part (stands y) (typed f i j l ps) = refl

last-part : (k : Taking) (x : Part) → last_of (given_part k x) ≡ last_of x
last-part (takes k) x = last-given k x
last-part (stands y) (typed f i j l ps) = refl

spans-given : (ks : List Taking) (ys : Parts) → spans (row (all_given ks ys)) ≡ spans (row ys)
spans-given [] ys = refl
spans-given (k ∷ ks) [] = refl
spans-given (k ∷ ks) (None ∷ ys) = spans-given ks ys
spans-given (k ∷ ks) (Some y ∷ ys) = λ j. (first-part k y j, last-part k y j) ∷ spans-given ks ys j

-- ---- forms

known-plain : (ls : Locals) (n : ℕ) (t : Option TypeTree) → is_statement_list (new_or_known n t) ≡ false
known-plain ls n (Some t) = refl
known-plain ls n None = refl

loop-plain : (x : Option Part) → is_statement_list (loop_form x) ≡ false
loop-plain (Some (typed (form.Held kind.Range) i j l ps)) = refl
loop-plain (Some (typed (form.Held kind.AssigningRange) i j l ps)) = refl
loop-plain (Some (typed (form.Held kind.DefiningRange) i j l ps)) = refl
loop-plain x = refl

first-loop-plain : (xs : Parts) → is_statement_list (first_loop_form xs) ≡ false
first-loop-plain [] = refl
first-loop-plain (x ∷ xs) = loop-plain x

loop-unheld : (x : Option Part) → is_held (loop_form x) ≡ false
loop-unheld (Some (typed (form.Held kind.Range) i j l ps)) = refl
loop-unheld (Some (typed (form.Held kind.AssigningRange) i j l ps)) = refl
loop-unheld (Some (typed (form.Held kind.DefiningRange) i j l ps)) = refl
loop-unheld x = refl

first-loop-unheld : (xs : Parts) → is_held (first_loop_form xs) ≡ false
first-loop-unheld [] = refl
first-loop-unheld (x ∷ xs) = loop-unheld x

-- statements have forms of their own
form-unheld : (k : Kind) (xs : Parts) → category.is_statement k ≡ true → is_held (form_by k xs) ≡ false
form-unheld (kind.Declaration declaring.Constant) xs e = refl
form-unheld (kind.Declaration declaring.Type) xs e = refl
form-unheld (kind.Declaration declaring.Variable) xs e = refl
form-unheld kind.Return xs e = refl
form-unheld kind.Break xs e = refl
form-unheld kind.Continue xs e = refl
form-unheld kind.Fallthrough xs e = refl
form-unheld kind.Block xs e = refl
form-unheld kind.If xs e = refl
form-unheld kind.Switch xs e = refl
form-unheld kind.For xs e = first-loop-unheld xs
form-unheld kind.ExpressionStatement xs e = refl
form-unheld (kind.StepStatement o) xs e = refl
form-unheld kind.Assignment xs e = refl
form-unheld (kind.OperatorAssignment o) xs e = refl
form-unheld kind.Define xs e = refl
form-unheld k xs e = cc

read-too : (k : Kind) → category.is_statement k ≡ true → is_statement k ≡ true
read-too (kind.Declaration s) e = refl
read-too kind.Return e = refl
read-too kind.Break e = refl
read-too kind.Continue e = refl
read-too kind.Fallthrough e = refl
read-too kind.Block e = refl
read-too kind.If e = refl
read-too kind.Switch e = refl
read-too kind.For e = refl
read-too kind.ExpressionStatement e = refl
read-too (kind.StepStatement o) e = refl
read-too kind.Assignment e = refl
read-too (kind.OperatorAssignment o) e = refl
read-too kind.Define e = refl
read-too k e = cc

-- where statements alone are left, each is one
abbrev Unheld : Parts → Type 0
Unheld [] = Unit {0}
Unheld (None ∷ ys) = Unheld ys
Unheld (Some x ∷ ys) = (is_held (form_of x) ≡ false) × Unheld ys

same-held : (ys : Parts) → Unheld ys → all_held ys ≡ ys
same-held [] h = refl
same-held (None ∷ ys) h = ap (λ zs. None ∷ zs) (same-held ys h)
same-held (Some y ∷ ys) h = ap (λ b. (if b then list_of (parts_of y) else Some y ∷ []) ++ all_held ys) h.0 ∙ ap (λ zs. Some y ∷ zs) (same-held ys h.1)

tiles-order : (i j : ℕ) (ps : Trees) → Tiles i j ps → i ≤ j
tiles-order i j syntax.none h = h
tiles-order i j (syntax.more p ps) h = omega (arith, h.0, h.1, tiles-order (last p) j ps h.2)
tiles-order i j (syntax.skip ps) h = tiles-order i j ps h

one-reading : (P : Reading → Type 0) (b : Bool) (x y : Reading) → (b ≡ true → P x) → (b ≡ false → P y) → P (if b then x else y)
one-reading P true x y f g = f refl
one-reading P false x y f g = g refl

module _ (n : ℕ) where
  -- ---- rows

  lower : (i i' : ℕ) (ss : List (ℕ × ℕ)) → i' ≤ i → Rises i n ss → Rises i' n ss
  lower i i' [] u h = tt
  lower i i' (s ∷ ss) u h = (omega (arith, u, h.0), h.1, h.2, h.3)

  dropped : (m i : ℕ) (ss : List (ℕ × ℕ)) → Rises i n ss → Rises 0 n (drop m ss)
  dropped zero i ss h = lower i 0 ss (omega arith) h
  dropped (suc m) i [] h = tt
  dropped (suc m) i (s ∷ ss) h = dropped m s.1 ss h.3

  behind-values : (m i : ℕ) (hs ws : Parts) → length hs ≤ m → Rises i n (spans (row ws)) → Rises 0 n (drop m (spans (row (hs ++ ws))))
  behind-values m i [] ws u h = dropped m i (spans (row ws)) h
  behind-values m i (None ∷ hs) ws u h = behind-values m i hs ws (omega (arith, u)) h
  behind-values zero i (Some x ∷ hs) ws u h = absurd (omega (arith, u))
  behind-values (suc m) i (Some x ∷ hs) ws u h = behind-values m i hs ws (omega (arith, u)) h

  -- ---- parts without statements

  new-fits : (ls : Locals) (f : Form) (ss : List (ℕ × ℕ)) → Fits n f ss → Fits n (new_form ls f) ss
  new-fits ls (form.Declared m) ss h = plain n (new_or_known m (declared_type ls m)) ss (known-plain ls m (declared_type ls m))
  new-fits ls f ss h = h

  renamed-good : (ls : Locals) (x : Part) → Good n x → Good n (with_form (new_form ls) x)
  renamed-good ls (typed f i j l ps) h = (new-fits ls f (spans ps) h.0, h.1)

  all-new-good : (ls : Locals) (xs : Parts) → EachGood n xs → EachGood n (map (new_name ls) xs)
  all-new-good ls [] h = tt
  all-new-good ls (None ∷ xs) h = (tt, all-new-good ls xs h.1)
  all-new-good ls (Some x ∷ xs) h = (renamed-good ls x h.0, all-new-good ls xs h.1)

  listed-good : (s : Frame) (k : Kind) (i : ℕ) (xs : Parts) → is_list k ≡ true → EachGood n xs → EachGood n (layout s k i xs)
  listed-good s kind.NameList i xs e h = h
  listed-good s kind.NewNames i xs e h = all-new-good s.locals (all_held xs) (all-held-good n xs h)
  listed-good s kind.Targets i xs e h = all-held-good n xs h
  listed-good s kind.ExpressionList i xs e h = h
  listed-good s kind.TypedValues i xs e h = all-held-good n xs h
  listed-good s kind.Values i xs e h = all-held-good n xs h
  listed-good s k i xs e h = cc

  mutual
    holding-good : (s : Frame) (h : Hint) (t : Tree) → Good n (holding s h t)
    holding-good s h (node k i j ps) =
        let ys = layout s k i (holdings s k h ps [] ps) in
        either (Good n) (is_list k) (list_node s k i j ys) (if is_declared_name k then name_node s i j else typing (scope_of s) h (node k i j ps))
        (λ e. (plain n (form.Held k) (spans (row ys)) refl, good-row n ys (listed-good s k i (holdings s k h ps [] ps) e (holdings-good s k h ps [] ps tt))))
        (either (Good n) (is_declared_name k) (name_node s i j) (typing (scope_of s) h (node k i j ps)) (λ e. (plain n _ [] (declared-plain s.around (s.around.objects i)), tt)) (typing-good n (scope_of s) h (node k i j ps)))

    holdings-good : (s : Frame) (k : Kind) (h : Hint) (all : Trees) (xs : Parts) (ps : Trees) → EachGood n xs → EachGood n (holdings s k h all xs ps)
    holdings-good s k h all xs syntax.none g = g
    holdings-good s k h all xs (syntax.more p ps) g =
        let x = holding s (told k h all xs (kind_of p)) p in holdings-good s k h all (xs ++ Some x ∷ []) ps (one-more n xs (Some x) g (holding-good s (told k h all xs (kind_of p)) p))
    holdings-good s k h all xs (syntax.skip ps) g = holdings-good s k h all (xs ++ None ∷ []) ps (one-more n xs None g tt)

  -- ---- how parts of statements are laid out

  one-of : (b : Bool) (xs ys : Parts) → EachGood n xs → EachGood n ys → EachGood n (if b then xs else ys)
  one-of b xs ys h k = either-good n b xs ys h k

  typed-or-not-good : (x : Option Part) → PartGood n x → EachGood n (typed_or_not x)
  typed-or-not-good None h = (tt, tt)
  typed-or-not-good (Some x) h = one-of (is_values (Some x)) (None ∷ held (Some x)) (held (Some x)) (tt, held-good n (Some x) h) (held-good n (Some x) h)

  specification-good : (xs : Parts) → EachGood n xs → EachGood n (specification_parts xs)
  specification-good (ns ∷ x ∷ []) h = good-behind n (held ns) (first_cut (typed_or_not x)) (held-good n ns h.0) (first-cut-good n (typed_or_not x) (typed-or-not-good x h.1.0))
  specification-good xs h = h

  names-good : (xs : Parts) → EachGood n xs → EachGood n (all_names xs)
  names-good [] h = tt
  names-good (None ∷ xs) h = names-good xs h.1
  names-good (Some x ∷ xs) h = good-behind n (specified_names (Some x)) (all_names xs) (take-good n (names_count (form_of x)) (list_of (parts_of x)) (inner-good n x h.0)) (names-good xs h.1)

  specifications-good : (xs : Parts) → EachGood n xs → EachGood n (specifications xs)
  specifications-good (Some x ∷ []) h = one-of (is_group (form_of x)) (list_of (parts_of x)) (Some x ∷ []) (inner-good n x h.0) h
  specifications-good xs h = h

  absent-good : (xs : Parts) → EachGood n xs → EachGood n (without_absent xs)
  absent-good [] h = tt
  absent-good (None ∷ xs) h = absent-good xs h.1
  absent-good (Some x ∷ xs) h = (h.0, absent-good xs h.1)

  header-good : (x : Option Part) → PartGood n x → EachGood n (header_parts x)
  header-good None h = (tt, (tt, tt))
  header-good (Some (typed (form.Held kind.LateCondition) i j l ps)) h = (tt, good-list n ps h.1)
  header-good (Some (typed (form.Held kind.LateTag) i j l ps)) h = (tt, good-list n ps h.1)
  header-good (Some (typed (form.Held kind.InitializedCondition) i j l ps)) h = good-list n ps h.1
  header-good (Some (typed (form.Held kind.InitializedTag) i j l ps)) h = good-list n ps h.1
  header-good (Some x) h = (tt, (h, tt))

  loop-good : (x : Option Part) → PartGood n x → EachGood n (loop_header x)
  loop-good None h = (tt, (tt, (tt, tt)))
  loop-good (Some (typed (form.Held kind.ForClause) i j l ps)) h = (tt, good-list n ps h.1)
  loop-good (Some (typed (form.Held k) i j l ps)) h = good-list n ps h.1
  loop-good (Some x) h = (tt, (h, (tt, tt)))

  if-good : (xs : Parts) → EachGood n xs → EachGood n (if_parts xs)
  if-good (x ∷ b ∷ e ∷ []) h = good-behind n (header_parts x) (b ∷ held e) (header-good x h.0) (h.1.0, held-good n e h.1.1.0)
  if-good xs h = h

  switch-good : (xs : Parts) → EachGood n xs → EachGood n (switch_parts xs)
  switch-good [] h = tt
  switch-good (x ∷ xs) h = good-behind n (header_parts x) xs (header-good x h.0) h.1

  for-good : (xs : Parts) → EachGood n xs → EachGood n (for_parts xs)
  for-good [] h = tt
  for-good (x ∷ xs) h = good-behind n (loop_header x) xs (loop-good x h.0) h.1

  layout-good : (s : Frame) (k : Kind) (i : ℕ) (xs : Parts) → is_statement k ≡ true → EachGood n xs → EachGood n (layout s k i xs)
  layout-good s kind.NewNames i xs e h = cc
  layout-good s kind.Targets i xs e h = cc
  layout-good s kind.Values i xs e h = cc
  layout-good s kind.TypedValues i xs e h = cc
  layout-good s (kind.Specification declaring.Type) i xs e h = ((plain n _ [] (declared-plain s.around (s.around.objects i)), tt), h)
  layout-good s (kind.Specification declaring.Variable) i xs e h = specification-good xs h
  layout-good s (kind.Specification declaring.Constant) i xs e h = specification-good xs h
  layout-good s (kind.Declaration declaring.Variable) i xs e h = specifications-good xs h
  layout-good s (kind.Declaration declaring.Constant) i xs e h = names-good (specifications xs) (specifications-good xs h)
  layout-good s (kind.Declaration declaring.Type) i xs e h = names-good (specifications xs) (specifications-good xs h)
  layout-good s kind.Assignment i xs e h = all-held-good n xs h
  layout-good s kind.Define i xs e h = all-held-good n xs h
  layout-good s kind.Case i xs e h = all-held-good n xs h
  layout-good s kind.Return i xs e h = absent-good (all_held xs) (all-held-good n xs h)
  layout-good s kind.If i xs e h = if-good xs h
  layout-good s kind.Switch i xs e h = switch-good xs h
  layout-good s kind.For i xs e h = for-good xs h
  layout-good s kind.AssigningRange i xs e h = all-held-good n xs h
  layout-good s kind.DefiningRange i xs e h = all-held-good n xs h
  layout-good s kind.FunctionDeclaration i xs e h = absent-good (behind_first xs) (behind-first-good n xs h)
  layout-good s k i xs e h = h

  -- ---- what parts take

  part-good : (k : Taking) (x : Part) → Good n x → Good n (given_part k x)
  part-good (takes k) x h = given-good n k x h
  part-good (stands y) (typed f i j l ps) h = h

  all-given-good : (ks : List Taking) (ys : Parts) → EachGood n ys → EachGood n (all_given ks ys)
  all-given-good [] ys h = h
  all-given-good (k ∷ ks) [] h = tt
  all-given-good (k ∷ ks) (None ∷ ys) h = (tt, all-given-good ks ys h.1)
  all-given-good (k ∷ ks) (Some y ∷ ys) h = (part-good k y h.0, all-given-good ks ys h.1)

  built-good : (s : Frame) (k : Kind) (f : Form) (i j : ℕ) (ys : Parts) (own : List TypeFault) → Fits n f (spans (row ys)) → EachGood n ys → Good n (built_by s k f i j ys own)
  built-good s k f i j ys (e ∷ es) u h = (u, good-row n ys h)
  built-good s k f i j ys [] u h = let ks = taking s k f ys in (subst (Fits n f) (sym (spans-given ks ys)) u, good-row n (all_given ks ys) (all-given-good ks ys h))

  -- ---- the parts that are read of a node

  abbrev IsOf : Tree → Part → Type 0
  IsOf t x = (first_of x ≡ first t) × (last_of x ≡ last t) × Good n x × (category.is_statement (kind_of t) ≡ true → is_held (form_of x) ≡ false)

  abbrev AreOf : Trees → Parts → Type 0
  AreOf syntax.none [] = Unit {0}
  AreOf syntax.none (y ∷ ys) = ⊥
  AreOf (syntax.more p ps) [] = ⊥
  AreOf (syntax.more p ps) (None ∷ ys) = ⊥
  AreOf (syntax.more p ps) (Some x ∷ ys) = IsOf p x × AreOf ps ys
  AreOf (syntax.skip ps) [] = ⊥
  AreOf (syntax.skip ps) (y ∷ ys) = PartGood n y × AreOf ps ys

  -- behind the parts xs these are read
  abbrev Behind : Parts → Trees → Readings → Type 0
  Behind xs ps (all_read zs fs s) = (ys : Parts) × (zs ≡ xs ++ ys) × AreOf ps ys

  abbrev pub Fine : Tree → Reading → Type 0
  Fine t (read x fs f) = IsOf t x

  are-good : (ps : Trees) (ys : Parts) → AreOf ps ys → EachGood n ys
  are-good syntax.none [] h = tt
  are-good syntax.none (y ∷ ys) h = absurd h
  are-good (syntax.more p ps) [] h = absurd h
  are-good (syntax.more p ps) (None ∷ ys) h = absurd h
  are-good (syntax.more p ps) (Some x ∷ ys) h = (h.0.2, are-good ps ys h.1)
  are-good (syntax.skip ps) [] h = absurd h
  are-good (syntax.skip ps) (y ∷ ys) h = (h.0, are-good ps ys h.1)

  left-good : (s : Frame) (k : Kind) → PartGood n (left_out s k)
  left-good s (kind.Specification declaring.Constant) = by s.source where
    by : (o : Option Tree) → PartGood n (repeated s o)
    by None = tt
    by (Some r) = holding-good s value r
  left-good s (kind.Specification declaring.Type) = tt
  left-good s (kind.Specification declaring.Variable) = tt
  left-good s k = tt

  first-more : (xs : Parts) (p : Tree) (ps : Trees) (x : Part) (z : Readings) → IsOf p x → Behind (xs ++ Some x ∷ []) ps z → Behind xs (syntax.more p ps) z
  first-more xs p ps x (all_read zs fs s) o r = (Some x ∷ r.0, r.1 ∙ append_assoc xs (Some x ∷ []) r.0, (o, r.2))

  first-skip : (s : Frame) (k : Kind) (xs : Parts) (ps : Trees) (z : Readings) → Behind (xs ++ left_out s k ∷ []) ps z → Behind xs (syntax.skip ps) z
  first-skip s k xs ps (all_read zs fs f) r = (left_out s k ∷ r.0, r.1 ∙ append_assoc xs (left_out s k ∷ []) r.0, (left-good s k, r.2))

  after-has : (P : Readings → Type 0) (t : Tree) (r : Reading) (next : Part → Found → Frame → Readings) → Fine t r → ((x : Part) (gs : Found) (f : Frame) → IsOf t x → P (next x gs f)) → P (after r next)
  after-has P t (read x gs f) next h g = g x gs f h

  -- ---- a statement list

  unheld : (ps : Trees) (zs : Parts) → AreStatements ps → AreOf ps zs → Unheld zs
  unheld syntax.none [] s k = tt
  unheld syntax.none (z ∷ zs) s k = absurd k
  unheld (syntax.more p ps) [] s k = absurd k
  unheld (syntax.more p ps) (None ∷ zs) s k = absurd k
  unheld (syntax.more p ps) (Some x ∷ zs) s k = (k.0.3 s.0, unheld ps zs s.1 k.1)
  unheld (syntax.skip ps) zs s k = absurd s

  rises : (i j : ℕ) (ps : Trees) (zs : Parts) → j ≤ n → Tiles i j ps → AllSet ps → AreStatements ps → AreOf ps zs → Rises i n (spans (row zs))
  rises i j syntax.none [] u t a s h = tt
  rises i j syntax.none (z ∷ zs) u t a s h = absurd h
  rises i j (syntax.more p ps) [] u t a s h = absurd h
  rises i j (syntax.more p ps) (None ∷ zs) u t a s h = absurd h
  rises i j (syntax.more p ps) (Some x ∷ zs) u t a s h =
      let b : first_of x ≡ first p = h.0.0 in
      let e : last_of x ≡ last p = h.0.1 in
      let begins : i ≤ first p = t.0 in
      let grows : first p < last p = set-grows p a.0 in
      let ends : last p ≤ j = tiles-order (last p) j ps t.2 in
      (omega (arith, b, begins), omega (arith, b, e, grows), omega (arith, e, ends, u), subst (λ m. Rises m n (spans (row zs))) (sym e) (rises (last p) j ps zs u t.2 a.1 s.1 h.1))
  rises i j (syntax.skip ps) zs u t a s h = absurd s

  case-fits : (i j : ℕ) (ps : Trees) (zs : Parts) → j ≤ n → Tiles i j ps → AllSet ps → IsList kind.Case ps → AreOf ps zs → Rises 0 n (drop (first_count zs) (spans (row (all_held zs))))
  case-fits i j syntax.none zs u t a c h = absurd c
  case-fits i j (syntax.skip ps) zs u t a c h = absurd c
  case-fits i j (syntax.more e ps) [] u t a c h = absurd h
  case-fits i j (syntax.more e ps) (None ∷ zs) u t a c h = absurd h
  case-fits i j (syntax.more e ps) (Some x ∷ zs) u t a c h =
      let hs = held (Some x) in
      subst (λ ws. Rises 0 n (drop (length hs) (spans (row (hs ++ ws))))) (sym (same-held zs (unheld ps zs c h.1)))
      (behind-values (length hs) (last e) hs zs (omega arith) (rises (last e) j ps zs u t.2 a.1 c h.1))

  -- ---- a node over its parts

  fits : (s : Frame) (k : Kind) (i j : ℕ) (ps : Trees) (zs : Parts) → j ≤ n → Tiles (i + ahead k) j ps → AllSet ps → IsList k ps → AreOf ps zs → Fits n (form_by k zs) (spans (row (layout s k i zs)))
  fits s kind.Block i j ps zs u t a c h = λ e. lower (i + 1) 0 (spans (row zs)) (omega arith) (rises (i + 1) j ps zs u t a c h)
  fits s kind.Default i j ps zs u t a c h = λ e. lower (i + 1) 0 (spans (row zs)) (omega arith) (rises (i + 1) j ps zs u t a c h)
  fits s kind.Case i j ps zs u t a c h = λ e. case-fits (i + 1) j ps zs u t a c h
  fits s kind.For i j ps zs u t a c h = plain n (first_loop_form zs) (spans (row (for_parts zs))) (first-loop-plain zs)
  fits s (kind.Declaration declaring.Constant) i j ps zs u t a c h = plain n form.Constants (spans (row (all_names (specifications zs)))) refl
  fits s (kind.Declaration declaring.Type) i j ps zs u t a c h = plain n form.TypeNames (spans (row (all_names (specifications zs)))) refl
  fits s (kind.Declaration declaring.Variable) i j ps zs u t a c h = plain n form.Variables (spans (row (specifications zs))) refl
  fits s (kind.Specification declaring.Constant) i j ps zs u t a c h = plain n (form.Specified (first_count zs)) (spans (row (specification_parts zs))) refl
  fits s (kind.Specification declaring.Type) i j ps zs u t a c h = plain n (form.Held (kind.Specification declaring.Type)) (spans (row (Some (type_name s i) ∷ zs))) refl
  fits s (kind.Specification declaring.Variable) i j ps zs u t a c h = plain n (form.Specified (first_count zs)) (spans (row (specification_parts zs))) refl
  fits s k i j ps zs u t a c h = plain n (form_by k zs) (spans (row (layout s k i zs))) refl

  closed-fine : (before : Frame) (k : Kind) (i j : ℕ) (ps : Trees) (r : Readings) → is_statement k ≡ true → j ≤ n → Set (node k i j ps) → Behind [] ps r → Fine (node k i j ps) (closed before k i j ps r)
  closed-fine before k i j ps (all_read zs fs s) e u g r =
      let f = form_by k zs in
      let ys = layout s k i zs in
      let own = own_faults s k f i j ys in
      let o : AreOf ps zs = subst (AreOf ps) (sym r.1) r.2 in (
        built-first s k f i j ys own,
        built-last s k f i j ys own,
        built-good s k f i j ys own (fits s k i j ps zs u g.1 g.3 g.2 o) (layout-good s k i zs e (are-good ps zs o)),
        λ q. ap is_held (built-form s k f i j ys own) ∙ form-unheld k zs q,
      )

  -- ---- whole trees

  mutual
    pub reading-fine : (s : Frame) (h : Hint) (t : Tree) → last t ≤ n → Set t → Fine t (reading s h t)
    reading-fine s h (node k i j ps) u g =
        one-reading (Fine (node k i j ps)) (is_statement k) (closed s k i j ps (readings (beginning k i s) k h ps [] [] ps)) (read (holding s h (node k i j ps)) (held_faults s h (node k i j ps)) s)
        (λ e. closed-fine s k i j ps (readings (beginning k i s) k h ps [] [] ps) e u g (readings-behind (beginning k i s) k h ps [] [] ps (i + ahead k) j u g.1 g.3))
        (λ e. (holding-first s h (node k i j ps), holding-last s h (node k i j ps), holding-good s h (node k i j ps), λ q. let never : true ≡ false = sym (read-too k q) ∙ e in cc))

    readings-behind : (s : Frame) (k : Kind) (h : Hint) (all : Trees) (xs : Parts) (fs : Found) (ps : Trees) (i j : ℕ) → j ≤ n → Tiles i j ps → AllSet ps → Behind xs ps (readings s k h all xs fs ps)
    readings-behind s k h all xs fs syntax.none i j u t a = ([], sym (append-nil xs), tt)
    readings-behind s k h all xs fs (syntax.more p ps) i j u t a =
        let inner = entering k xs s in
        let to = told k h all xs (kind_of p) in
        let ends : last p ≤ j = tiles-order (last p) j ps t.2 in
        after-has (Behind xs (syntax.more p ps)) p (reading inner to p) (λ x gs f. readings f k h all (xs ++ Some x ∷ []) (fs ++ gs) ps) (reading-fine inner to p (omega (arith, ends, u)) a.0)
        (λ x gs f q. first-more xs p ps x (readings f k h all (xs ++ Some x ∷ []) (fs ++ gs) ps) q (readings-behind f k h all (xs ++ Some x ∷ []) (fs ++ gs) ps (last p) j u t.2 a.1))
    readings-behind s k h all xs fs (syntax.skip ps) i j u t a =
        let inner = entering k xs s in
        first-skip inner k xs ps (readings inner k h all (xs ++ left_out inner k ∷ []) (fs ++ left_out_faults inner k) ps)
        (readings-behind inner k h all (xs ++ left_out inner k ∷ []) (fs ++ left_out_faults inner k) ps i j u t a)
