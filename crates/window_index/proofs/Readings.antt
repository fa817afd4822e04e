-- The typed tree of a body, whose parts lie one behind the other as those of its syntax tree do.
use Rattle.std.proofs.Common.{◌≡◌, ◌∙◌, ℕ, zero, suc, ◌+◌, ◌<◌, ◌≤◌, inl, inr, Bool, true, false, if◌then◌else◌, List, [], ◌∷◌, ◌++◌, length, map, Option, Some, None, refl, sym, ap, subst, arith, append_assoc, append-nil}
use Rattle.go_grammar.specs.declared.kind.Kind.{Kind}
use Rattle.go_grammar.specs.declared.kind.Kind.TheVariants as kind
use Rattle.go_grammar.specs.declared.kind.Sort.TheVariants as declaring
use Rattle.go_grammar.specs.Categories as category
use Rattle.go_grammar.specs.Trees.{Tree, node, Trees, kind_of, first, last}
use Rattle.go_grammar.specs.Trees as syntax
use Rattle.go_tree.specs.Views.{Tiles}
use Rattle.go_types.specs.Trees.{TypeTree}
use Rattle.go_typed.specs.declared.form.Form.{Form}
use Rattle.go_typed.specs.declared.form.Form.TheVariants as form
use Rattle.go_typed.specs.Forms.{is_statement_list, values_count}
use Rattle.go_typed.specs.Trees.{Typed, typed, Typeds, none, more, skip, row, list_of, first_of, last_of, form_of}
use Rattle.go_typed.specs.Trees as sort
use Rattle.go_exprs_rules.specs.declared.fault.TypeFault.{TypeFault}
use Rattle.go_exprs_rules.specs.Scopes.{Hint, value}
use Rattle.go_exprs_rules.specs.Settling.{Part}
use Rattle.go_exprs_rules.specs.Tables.{Parts, is_held, held, all_held}
use Rattle.go_exprs_rules.specs.Typing.{typing}
use Rattle.go_stmts_defs.specs.Frames.{Frame, Locals, scope_of, declared_type}
use Rattle.go_stmts_defs.specs.Laying.{told, layout, form_by, first_count, first_loop_form, loop_form, new_or_known, new_form, with_form, new_name}
use Rattle.go_stmts_defs.specs.Reading.{Found, Reading, read, Readings, all_read, is_list, is_declared_name, is_statement, list_node, name_node, holding, holdings, held_faults, beginning, entering, repeated, left_out, left_out_faults, after, closed, reading, readings}
use Rattle.go_stmts_defs.specs.Assigning.{Taking, takes, stands}
use Rattle.go_stmts_defs.specs.Rules.{taking, own_faults, given_part, all_given, built_by}
use Rattle.window_index.proofs.Derived.{ahead, AreStatements, IsClause, Set, AllSet, set-grows}
use Rattle.window_index.proofs.Layouts.{Lie, layout-lie}
use Rattle.window_index.proofs.Nested.{choice, Flat, Nested, Row, Listed, within-first, within-grows, is-within, row-wider, row-looser, row-listed, row-skips, flat-nested, plain, shape, shapes, nested-alike}
use Rattle.window_index.proofs.Typings.{PartFlat, EachFlat, flat-row, flat-behind, held-flat, all-held-flat, declared-plain, shape-given, typing-flat, typing-first, typing-last}

-- ---- parts without statements

known-plain : (ls : Locals) (n : ℕ) (t : Option TypeTree) → is_statement_list (new_or_known n t) ≡ false
known-plain ls n (Some t) = refl
known-plain ls n None = refl

new-plain : (ls : Locals) (f : Form) → is_statement_list f ≡ false → is_statement_list (new_form ls f) ≡ false
new-plain ls (form.Declared n) h = known-plain ls n (declared_type ls n)
new-plain ls f h = h

renamed-flat : (ls : Locals) (x : Part) → Flat x → Flat (with_form (new_form ls) x)
renamed-flat ls (typed f i j l ps) h = (new-plain ls f h.0, h.1)

all-new-flat : (ls : Locals) (xs : Parts) → EachFlat xs → EachFlat (map (new_name ls) xs)
all-new-flat ls [] h = tt
all-new-flat ls (None ∷ xs) h = (tt, all-new-flat ls xs h.1)
all-new-flat ls (Some x ∷ xs) h = (renamed-flat ls x h.0, all-new-flat ls xs h.1)

laid-flat : (s : Frame) (k : Kind) (i : ℕ) (xs : Parts) → is_list k ≡ true → EachFlat xs → EachFlat (layout s k i xs)
laid-flat s kind.NameList i xs e h = h
laid-flat s kind.NewNames i xs e h = all-new-flat s.locals (all_held xs) (all-held-flat xs h)
laid-flat s kind.Targets i xs e h = all-held-flat xs h
laid-flat s kind.ExpressionList i xs e h = h
laid-flat s kind.TypedValues i xs e h = all-held-flat xs h
laid-flat s kind.Values i xs e h = all-held-flat xs h
laid-flat s k i xs e h = cc

-- what holds of both, and of the first one only where the test passes
either : (P : Part → Type 0) (b : Bool) (x y : Part) → (b ≡ true → P x) → P y → P (if b then x else y)
either P true x y f h = f refl
either P false x y f h = h

one-more : (xs : Parts) (x : Option Part) → EachFlat xs → PartFlat x → EachFlat (xs ++ x ∷ [])
one-more xs x h g = flat-behind xs (x ∷ []) h (g, tt)

mutual
  pub holding-flat : (s : Frame) (h : Hint) (t : Tree) → Flat (holding s h t)
  holding-flat s h (node k i j ps) =
      either Flat (is_list k) (list_node s k i j (layout s k i (holdings s k h ps [] ps))) (if is_declared_name k then name_node s i j else typing (scope_of s) h (node k i j ps))
      (λ e. (refl, flat-row (layout s k i (holdings s k h ps [] ps)) (laid-flat s k i (holdings s k h ps [] ps) e (holdings-flat s k h ps [] ps tt))))
      (either Flat (is_declared_name k) (name_node s i j) (typing (scope_of s) h (node k i j ps)) (λ e. (declared-plain s.around (s.around.objects i), tt)) (typing-flat (scope_of s) h (node k i j ps)))

  holdings-flat : (s : Frame) (k : Kind) (h : Hint) (all : Trees) (xs : Parts) (ps : Trees) → EachFlat xs → EachFlat (holdings s k h all xs ps)
  holdings-flat s k h all xs syntax.none g = g
  holdings-flat s k h all xs (syntax.more p ps) g =
      holdings-flat s k h all (xs ++ Some (holding s (told k h all xs (kind_of p)) p) ∷ []) ps (one-more xs (Some (holding s (told k h all xs (kind_of p)) p)) g (holding-flat s (told k h all xs (kind_of p)) p))
  holdings-flat s k h all xs (syntax.skip ps) g = holdings-flat s k h all (xs ++ None ∷ []) ps (one-more xs None g tt)

holding-first : (s : Frame) (h : Hint) (t : Tree) → first_of (holding s h t) ≡ first t
holding-first s h (node k i j ps) =
    either (λ x. first_of x ≡ i) (is_list k) (list_node s k i j (layout s k i (holdings s k h ps [] ps))) (if is_declared_name k then name_node s i j else typing (scope_of s) h (node k i j ps)) (λ e. refl)
    (either (λ x. first_of x ≡ i) (is_declared_name k) (name_node s i j) (typing (scope_of s) h (node k i j ps)) (λ e. refl) (typing-first (scope_of s) h (node k i j ps)))

holding-last : (s : Frame) (h : Hint) (t : Tree) → last_of (holding s h t) ≡ last t
holding-last s h (node k i j ps) =
    either (λ x. last_of x ≡ j) (is_list k) (list_node s k i j (layout s k i (holdings s k h ps [] ps))) (if is_declared_name k then name_node s i j else typing (scope_of s) h (node k i j ps)) (λ e. refl)
    (either (λ x. last_of x ≡ j) (is_declared_name k) (name_node s i j) (typing (scope_of s) h (node k i j ps)) (λ e. refl) (typing-last (scope_of s) h (node k i j ps)))

-- ---- what parts take

shape-part : (k : Taking) (x : Part) → shape (given_part k x) ≡ shape x
shape-part (takes k) x = shape-given k x
shape-part (stands y) (typed f i j l ps) = refl

shapes-given : (ks : List Taking) (ys : Parts) → shapes (row (all_given ks ys)) ≡ shapes (row ys)
shapes-given [] ys = refl
shapes-given (k ∷ ks) [] = refl
shapes-given (k ∷ ks) (None ∷ ys) = ap skip (shapes-given ks ys)
shapes-given (k ∷ ks) (Some y ∷ ys) = ap (λ q. more q (shapes (row (all_given ks ys)))) (shape-part k y) ∙ ap (more (shape y)) (shapes-given ks ys)

built-first : (s : Frame) (k : Kind) (f : Form) (i j : ℕ) (ys : Parts) (own : List TypeFault) → first_of (built_by s k f i j ys own) ≡ i
built-first s k f i j ys [] = refl
built-first s k f i j ys (e ∷ es) = refl

built-last : (s : Frame) (k : Kind) (f : Form) (i j : ℕ) (ys : Parts) (own : List TypeFault) → last_of (built_by s k f i j ys own) ≡ j
built-last s k f i j ys [] = refl
built-last s k f i j ys (e ∷ es) = refl

built-form : (s : Frame) (k : Kind) (f : Form) (i j : ℕ) (ys : Parts) (own : List TypeFault) → form_of (built_by s k f i j ys own) ≡ f
built-form s k f i j ys [] = refl
built-form s k f i j ys (e ∷ es) = refl

-- the parts of a node of this form lie as they are to
abbrev Laid : Form → ℕ → ℕ → Parts → Type 0
Laid f i j ys = choice (is_statement_list f) (Listed (values_count f) (suc i) j (row ys)) (Row false i j (row ys))

built-nested : (s : Frame) (k : Kind) (f : Form) (i j : ℕ) (ys : Parts) (own : List TypeFault) → Laid f i j ys → Nested (built_by s k f i j ys own)
built-nested s k f i j ys (e ∷ es) h = h
built-nested s k f i j ys [] h =
    nested-alike (typed f i j (record { sort = sort.Nothing; varies = false; calls = false }) (row ys)) (built_by s k f i j ys []) (ap (typed f i j plain) (sym (shapes-given (taking s k f ys) ys))) h

-- ---- kinds and forms

loop-plain : (x : Option Part) → is_statement_list (loop_form x) ≡ false
loop-plain (Some (typed (form.Held kind.Range) i j l ps)) = refl
loop-plain (Some (typed (form.Held kind.AssigningRange) i j l ps)) = refl
loop-plain (Some (typed (form.Held kind.DefiningRange) i j l ps)) = refl
loop-plain x = refl

first-loop-plain : (xs : Parts) → is_statement_list (first_loop_form xs) ≡ false
first-loop-plain [] = refl
first-loop-plain (x ∷ xs) = loop-plain x

loop-unheld : (x : Option Part) → is_held (loop_form x) ≡ false
loop-unheld (Some (typed (form.Held kind.Range) i j l ps)) = refl
loop-unheld (Some (typed (form.Held kind.AssigningRange) i j l ps)) = refl
loop-unheld (Some (typed (form.Held kind.DefiningRange) i j l ps)) = refl
loop-unheld x = refl

first-loop-unheld : (xs : Parts) → is_held (first_loop_form xs) ≡ false
first-loop-unheld [] = refl
first-loop-unheld (x ∷ xs) = loop-unheld x

-- statements have forms of their own
form-unheld : (k : Kind) (xs : Parts) → category.is_statement k ≡ true → is_held (form_by k xs) ≡ false
form-unheld (kind.Declaration declaring.Constant) xs e = refl
form-unheld (kind.Declaration declaring.Type) xs e = refl
form-unheld (kind.Declaration declaring.Variable) xs e = refl
form-unheld kind.Return xs e = refl
form-unheld kind.Break xs e = refl
form-unheld kind.Continue xs e = refl
form-unheld kind.Fallthrough xs e = refl
form-unheld kind.Block xs e = refl
form-unheld kind.If xs e = refl
form-unheld kind.Switch xs e = refl
form-unheld kind.For xs e = first-loop-unheld xs
form-unheld kind.ExpressionStatement xs e = refl
form-unheld (kind.StepStatement o) xs e = refl
form-unheld kind.Assignment xs e = refl
form-unheld (kind.OperatorAssignment o) xs e = refl
form-unheld kind.Define xs e = refl
form-unheld k xs e = cc

read-too : (k : Kind) → category.is_statement k ≡ true → is_statement k ≡ true
read-too (kind.Declaration s) e = refl
read-too kind.Return e = refl
read-too kind.Break e = refl
read-too kind.Continue e = refl
read-too kind.Fallthrough e = refl
read-too kind.Block e = refl
read-too kind.If e = refl
read-too kind.Switch e = refl
read-too kind.For e = refl
read-too kind.ExpressionStatement e = refl
read-too (kind.StepStatement o) e = refl
read-too kind.Assignment e = refl
read-too (kind.OperatorAssignment o) e = refl
read-too kind.Define e = refl
read-too k e = cc

-- ---- the parts that are read of a node

-- only a specification of constants has a part that stands elsewhere
abbrev strict : Kind → Bool
strict (kind.Specification declaring.Constant) = false
strict k = true

abbrev OfKind : Kind → Part → Type 0
OfKind k x = (is_statement k ≡ false → Flat x) × (category.is_statement k ≡ true → is_held (form_of x) ≡ false)

abbrev OfKinds : Trees → Parts → Type 0
OfKinds syntax.none [] = Unit {0}
OfKinds syntax.none (y ∷ ys) = ⊥
OfKinds (syntax.more p ps) [] = ⊥
OfKinds (syntax.more p ps) (None ∷ ys) = ⊥
OfKinds (syntax.more p ps) (Some x ∷ ys) = OfKind (kind_of p) x × OfKinds ps ys
OfKinds (syntax.skip ps) [] = ⊥
OfKinds (syntax.skip ps) (y ∷ ys) = OfKinds ps ys

-- where statements alone are left, each is one
abbrev Unheld : Parts → Type 0
Unheld [] = Unit {0}
Unheld (None ∷ ys) = Unheld ys
Unheld (Some x ∷ ys) = (is_held (form_of x) ≡ false) × Unheld ys

-- behind the parts xs these are read
abbrev Behind : Kind → ℕ → ℕ → Parts → Trees → Readings → Type 0
Behind k i j xs ps (all_read zs fs s) = (ys : Parts) × (zs ≡ xs ++ ys) × Row (strict k) i j (row ys) × OfKinds ps ys

abbrev pub Fine : Kind → ℕ → ℕ → Reading → Type 0
Fine k i j (read x fs f) = (first_of x ≡ i) × (last_of x ≡ j) × Nested x × OfKind k x

repeated-lies : (s : Frame) (b : Bool) (i j : ℕ) (o : Option Tree) (ys : Parts) → b ≡ false → Row b i j (row ys) → Row b i j (row (repeated s o ∷ ys))
repeated-lies s b i j None ys e h = h
repeated-lies s b i j (Some r) ys e h = inl (e, holding-flat s value r, h)

left-lies : (s : Frame) (k : Kind) (i j : ℕ) (ys : Parts) → Row (strict k) i j (row ys) → Row (strict k) i j (row (left_out s k ∷ ys))
left-lies s (kind.Specification declaring.Constant) i j ys h = repeated-lies s false i j s.source ys refl h
left-lies s (kind.Specification declaring.Type) i j ys h = h
left-lies s (kind.Specification declaring.Variable) i j ys h = h
left-lies s k i j ys h = h

first-more : (k : Kind) (i j : ℕ) (xs : Parts) (p : Tree) (ps : Trees) (x : Part) (z : Readings) → (first_of x ≡ first p) → (last_of x ≡ last p) → Nested x → OfKind (kind_of p) x →
    i ≤ first p → first p < last p → last p ≤ j → Behind k (last p) j (xs ++ Some x ∷ []) ps z → Behind k i j xs (syntax.more p ps) z
first-more k i j xs p ps x (all_read zs fs s) e f n o u v w r = (
  Some x ∷ r.0,
  r.1 ∙ append_assoc xs (Some x ∷ []) r.0,
  inr (is-within i j x (omega (arith, e, u)) (omega (arith, e, f, v)) (omega (arith, f, w)) n, subst (λ m. Row (strict k) m j (row r.0)) (sym f) r.2),
  (o, r.3),
)

first-skip : (s : Frame) (k : Kind) (i j : ℕ) (xs : Parts) (ps : Trees) (z : Readings) → Behind k i j (xs ++ left_out s k ∷ []) ps z → Behind k i j xs (syntax.skip ps) z
first-skip s k i j xs ps (all_read zs fs f) r = (left_out s k ∷ r.0, r.1 ∙ append_assoc xs (left_out s k ∷ []) r.0, left-lies s k i j r.0 r.2, r.3)

after-has : (P : Readings → Type 0) (k : Kind) (i j : ℕ) (r : Reading) (next : Part → Found → Frame → Readings) → Fine k i j r →
    ((x : Part) (gs : Found) (f : Frame) → (first_of x ≡ i) × (last_of x ≡ j) × Nested x × OfKind k x → P (next x gs f)) → P (after r next)
after-has P k i j (read x gs f) next h g = g x gs f h

tiles-order : (i j : ℕ) (ps : Trees) → Tiles i j ps → i ≤ j
tiles-order i j syntax.none h = h
tiles-order i j (syntax.more p ps) h = omega (arith, h.0, h.1, tiles-order (last p) j ps h.2)
tiles-order i j (syntax.skip ps) h = tiles-order i j ps h

-- ---- a clause

same-held : (ys : Parts) → Unheld ys → all_held ys ≡ ys
same-held [] h = refl
same-held (None ∷ ys) h = ap (λ zs. None ∷ zs) (same-held ys h)
same-held (Some y ∷ ys) h = ap (λ b. (if b then list_of (sort.parts_of y) else Some y ∷ []) ++ all_held ys) h.0 ∙ ap (λ zs. Some y ∷ zs) (same-held ys h.1)

values-listed : (n i j : ℕ) (zs ys : Parts) → length zs ≤ n → EachFlat zs → Row true i j (row ys) → Listed n i j (row (zs ++ ys))
values-listed n i j [] ys u f h = row-skips n i j (row ys) h
values-listed n i j (None ∷ zs) ys u f h = values-listed n i j zs ys (omega (arith, u)) f.1 h
values-listed zero i j (Some z ∷ zs) ys u f h = absurd (omega (arith, u))
values-listed (suc n) i j (Some z ∷ zs) ys u f h = inl (f.0, values-listed n i j zs ys (omega (arith, u)) f.1 h)

unheld : (ps : Trees) (zs : Parts) → AreStatements ps → OfKinds ps zs → Unheld zs
unheld syntax.none [] s k = tt
unheld syntax.none (z ∷ zs) s k = absurd k
unheld (syntax.more p ps) [] s k = absurd k
unheld (syntax.more p ps) (None ∷ zs) s k = absurd k
unheld (syntax.more p ps) (Some x ∷ zs) s k = (k.0.1 s.0, unheld ps zs s.1 k.1)
unheld (syntax.skip ps) zs s k = absurd s

clause-listed : (i j : ℕ) (ps : Trees) (zs : Parts) → IsClause kind.Case ps → OfKinds ps zs → Row true (i + 1) j (row zs) → Listed (first_count zs) (suc i) j (row (all_held zs))
clause-listed i j syntax.none zs c o h = absurd c
clause-listed i j (syntax.skip ps) zs c o h = absurd c
clause-listed i j (syntax.more e ps) [] c o h = absurd o
clause-listed i j (syntax.more e ps) (None ∷ zs) c o h = absurd o
clause-listed i j (syntax.more e ps) (Some x ∷ zs) c o (inl h) = let w : true ≡ false = h.0 in cc
clause-listed i j (syntax.more e ps) (Some x ∷ zs) c o (inr h) =
    let flat : Flat x = o.0.0 (ap is_statement c.0) in
    let a : i + 1 ≤ first_of x = within-first (i + 1) j x h.0 in
    let b : first_of x < last_of x = within-grows (i + 1) j x h.0 in
    subst (λ ws. Listed (length (held (Some x))) (suc i) j (row (held (Some x) ++ ws))) (sym (same-held zs (unheld ps zs c.1 o.1)))
    (values-listed (length (held (Some x))) (suc i) j (held (Some x)) zs (omega arith) (held-flat (Some x) flat) (row-wider true (last_of x) (suc i) j j (row zs) (omega (arith, a, b)) (omega arith) h.1))

-- ---- a node over its parts

module _ (s : Frame) (i j : ℕ) (zs : Parts) where
  low : (k : Kind) → Row (strict k) (i + ahead k) j (row zs) → Lie i j zs
  low k h = row-looser (strict k) i j (row zs) (row-wider (strict k) (i + ahead k) i j j (row zs) (omega arith) (omega arith) h)

  next : Row true (i + 1) j (row zs) → Listed zero (suc i) j (row zs)
  next h = row-listed (suc i) j (row zs) (row-wider true (i + 1) (suc i) j j (row zs) (omega arith) (omega arith) h)

  laid : (k : Kind) (ps : Trees) → is_statement k ≡ true → IsClause k ps → OfKinds ps zs → Row (strict k) (i + ahead k) j (row zs) → Laid (form_by k zs) i j (layout s k i zs)
  laid kind.Block ps e c o h = next h
  laid kind.Default ps e c o h = next h
  laid kind.Case ps e c o h = clause-listed i j ps zs c o h
  laid kind.For ps e c o h =
      let ys = layout s kind.For i zs in
      let f = first_loop_form zs in
      subst (λ b. choice b (Listed (values_count f) (suc i) j (row ys)) (Row false i j (row ys))) (sym (first-loop-plain zs)) (layout-lie s kind.For i i j zs e (low kind.For h))
  laid (kind.Declaration declaring.Constant) ps e c o h = layout-lie s (kind.Declaration declaring.Constant) i i j zs e (low (kind.Declaration declaring.Constant) h)
  laid (kind.Declaration declaring.Type) ps e c o h = layout-lie s (kind.Declaration declaring.Type) i i j zs e (low (kind.Declaration declaring.Type) h)
  laid (kind.Declaration declaring.Variable) ps e c o h = layout-lie s (kind.Declaration declaring.Variable) i i j zs e (low (kind.Declaration declaring.Variable) h)
  laid (kind.Specification declaring.Constant) ps e c o h = layout-lie s (kind.Specification declaring.Constant) i i j zs e (low (kind.Specification declaring.Constant) h)
  laid (kind.Specification declaring.Type) ps e c o h = layout-lie s (kind.Specification declaring.Type) i i j zs e (low (kind.Specification declaring.Type) h)
  laid (kind.Specification declaring.Variable) ps e c o h = layout-lie s (kind.Specification declaring.Variable) i i j zs e (low (kind.Specification declaring.Variable) h)
  laid k ps e c o h = layout-lie s k i i j zs e (low k h)

closed-fine : (before : Frame) (k : Kind) (i j : ℕ) (ps : Trees) (r : Readings) → is_statement k ≡ true → IsClause k ps → Behind k (i + ahead k) j [] ps r → Fine k i j (closed before k i j ps r)
closed-fine before k i j ps (all_read zs fs s) e c r =
    let f = form_by k zs in
    let ys = layout s k i zs in
    let own = own_faults s k f i j ys in
    let o : OfKinds ps zs = subst (OfKinds ps) (sym r.1) r.3 in
    let h : Row (strict k) (i + ahead k) j (row zs) = subst (λ ws. Row (strict k) (i + ahead k) j (row ws)) (sym r.1) r.2 in (
      built-first s k f i j ys own,
      built-last s k f i j ys own,
      built-nested s k f i j ys own (laid s i j zs k ps e c o h),
      (λ n. let never : true ≡ false = sym e ∙ n in cc, λ n. ap is_held (built-form s k f i j ys own) ∙ form-unheld k zs n),
    )

-- ---- whole trees

one-reading : (P : Reading → Type 0) (b : Bool) (x y : Reading) → (b ≡ true → P x) → (b ≡ false → P y) → P (if b then x else y)
one-reading P true x y f g = f refl
one-reading P false x y f g = g refl

mutual
  pub reading-fine : (s : Frame) (h : Hint) (t : Tree) → Set t → Fine (kind_of t) (first t) (last t) (reading s h t)
  reading-fine s h (node k i j ps) g =
      one-reading (Fine k i j) (is_statement k) (closed s k i j ps (readings (beginning k i s) k h ps [] [] ps)) (read (holding s h (node k i j ps)) (held_faults s h (node k i j ps)) s)
      (λ e. closed-fine s k i j ps (readings (beginning k i s) k h ps [] [] ps) e g.2 (readings-behind (beginning k i s) k h ps [] [] ps (i + ahead k) j g.1 g.3))
      (λ e. (
        holding-first s h (node k i j ps),
        holding-last s h (node k i j ps),
        flat-nested (holding s h (node k i j ps)) (holding-flat s h (node k i j ps)),
        (λ n. holding-flat s h (node k i j ps), λ n. let never : true ≡ false = sym (read-too k n) ∙ e in cc),
      ))

  readings-behind : (s : Frame) (k : Kind) (h : Hint) (all : Trees) (xs : Parts) (fs : Found) (ps : Trees) (i j : ℕ) → Tiles i j ps → AllSet ps → Behind k i j xs ps (readings s k h all xs fs ps)
  readings-behind s k h all xs fs syntax.none i j t a = ([], sym (append-nil xs), tt, tt)
  readings-behind s k h all xs fs (syntax.more p ps) i j t a =
      let inner = entering k xs s in
      let to = told k h all xs (kind_of p) in
      after-has (Behind k i j xs (syntax.more p ps)) (kind_of p) (first p) (last p) (reading inner to p) (λ x gs f. readings f k h all (xs ++ Some x ∷ []) (fs ++ gs) ps) (reading-fine inner to p a.0)
      (λ x gs f q. first-more k i j xs p ps x (readings f k h all (xs ++ Some x ∷ []) (fs ++ gs) ps) q.0 q.1 q.2 q.3 t.0 (set-grows p a.0) (tiles-order (last p) j ps t.2)
      (readings-behind f k h all (xs ++ Some x ∷ []) (fs ++ gs) ps (last p) j t.2 a.1))
  readings-behind s k h all xs fs (syntax.skip ps) i j t a =
      let inner = entering k xs s in
      first-skip inner k i j xs ps (readings inner k h all (xs ++ left_out inner k ∷ []) (fs ++ left_out_faults inner k) ps)
      (readings-behind inner k h all (xs ++ left_out inner k ∷ []) (fs ++ left_out_faults inner k) ps i j t a)
