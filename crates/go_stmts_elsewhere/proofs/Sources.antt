-- What constants repeat is read in declarations of constants alone, which forget first what stands in front of them.
use Rattle.std.proofs.Common.{◌≡◌, ◌∙◌, ℕ, Bool, true, false, List, [], ◌∷◌, ◌++◌, Option, Some, None, refl, sym, ap, subst, cond}
use Rattle.go_grammar.specs.declared.kind.Kind.{Kind}
use Rattle.go_grammar.specs.declared.kind.Kind.TheVariants as kind
use Rattle.go_grammar.specs.declared.kind.Sort.TheVariants as declaring
use Rattle.go_grammar.specs.Trees.{Tree, node, Trees, none, more, skip, kind_of}
use Rattle.go_rewriting.specs.Places.{carry, carries}
use Rattle.go_types.specs.Trees.{TypeTree}
use Rattle.go_typed.specs.declared.form.Form.{Form}
use Rattle.go_typed.specs.Trees.{list_of, parts_of, sort_of, form_of}
use Rattle.go_typed.specs.Trees as sort
use Rattle.go_exprs_rules.specs.declared.fault.TypeFault.{TypeFault}
use Rattle.go_exprs_rules.specs.Scopes.{Hint}
use Rattle.go_exprs_rules.specs.Settling.{Part}
use Rattle.go_exprs_rules.specs.Sorts.{Stands}
use Rattle.go_exprs_rules.specs.Tables.{Parts, made, on_two}
use Rattle.go_exprs_rules.specs.TypeNodes.{part_type, entry_types}
use Rattle.go_exprs_rules.specs.Typing.{typing, faults}
use Rattle.go_stmts_defs.specs.Frames.{Frame, rights_of, scope_of, with_own_right}
use Rattle.go_stmts_defs.specs.Laying.{told, layout, form_by, local_named, type_number}
use Rattle.go_stmts_defs.specs.Reading.{Found, is_list, is_declared_name, list_node, name_node, holding, holdings, held_faults, all_held_faults}
use Rattle.go_stmts_defs.specs.Reading.{is_new, declares_sort, declares_name, declares_all, right_side, with_type, with_parameter, with_parameters, signature_results, first_parts, entry_names}
use Rattle.go_stmts_defs.specs.Reading.{in_function, in_switch, entering, beginning, back, leaving, Reading, read, Readings, all_read, left_out, left_out_faults, is_statement, closed, after, reading, readings}
use Rattle.go_stmts_defs.specs.Rules.{first_fault, late_limits, type_failing, failing, taking, judges, own_faults, built_by, all_given}
use Rattle.go_stmts_elsewhere.specs.Replaced.{HasNoSource, HaveNoSource}

-- the frame with this to be repeated
abbrev pub sourced : Option Tree → Frame → Frame
sourced o f = record f { source = o }

-- ---- parts without statements

pub layout_so : (f : Frame) (o : Option Tree) (k : Kind) (i : ℕ) (xs : Parts) → layout (sourced o f) k i xs ≡ layout f k i xs
layout_so f o kind.NewNames i xs = refl
layout_so f o kind.Targets i xs = refl
layout_so f o kind.Values i xs = refl
layout_so f o kind.TypedValues i xs = refl
layout_so f o (kind.Specification declaring.Type) i xs = refl
layout_so f o (kind.Specification d) i xs = refl
layout_so f o (kind.Declaration declaring.Variable) i xs = refl
layout_so f o (kind.Declaration d) i xs = refl
layout_so f o kind.Assignment i xs = refl
layout_so f o kind.Define i xs = refl
layout_so f o kind.Case i xs = refl
layout_so f o kind.Return i xs = refl
layout_so f o kind.If i xs = refl
layout_so f o kind.Switch i xs = refl
layout_so f o kind.For i xs = refl
layout_so f o kind.AssigningRange i xs = refl
layout_so f o kind.DefiningRange i xs = refl
layout_so f o kind.FunctionDeclaration i xs = refl
layout_so f o k i xs = refl

mutual
  pub held_so : (f : Frame) (o : Option Tree) (h : Hint) (x : Tree) → holding (sourced o f) h x ≡ holding f h x
  held_so f o h (node k i j ps) =
      ap (λ ys. cond (is_list k) (list_node f k i j ys) (cond (is_declared_name k) (name_node f i j) (typing (scope_of f) h (node k i j ps)))) (ap (layout (sourced o f) k i) (all_held_so f o k h ps [] ps) ∙ layout_so f o k i (holdings f k h ps [] ps))

  all_held_so : (f : Frame) (o : Option Tree) (k : Kind) (h : Hint) (all : Trees) (xs : Parts) (ts : Trees) → holdings (sourced o f) k h all xs ts ≡ holdings f k h all xs ts
  all_held_so f o k h all xs none = refl
  all_held_so f o k h all xs (skip ts) = all_held_so f o k h all (xs ++ None ∷ []) ts
  all_held_so f o k h all xs (more t ts) =
      ap (λ z. holdings (sourced o f) k h all (xs ++ Some z ∷ []) ts) (held_so f o (told k h all xs (kind_of t)) t) ∙ all_held_so f o k h all (xs ++ Some (holding f (told k h all xs (kind_of t)) t) ∷ []) ts

mutual
  pub faults_so : (f : Frame) (o : Option Tree) (h : Hint) (x : Tree) → held_faults (sourced o f) h x ≡ held_faults f h x
  faults_so f o h (node k i j ps) = ap (λ fs. cond (is_list k) fs (cond (is_declared_name k) [] (faults (scope_of f) h (node k i j ps)))) (all_faults_so f o k h ps [] ps)

  all_faults_so : (f : Frame) (o : Option Tree) (k : Kind) (h : Hint) (all : Trees) (xs : Parts) (ts : Trees) → all_held_faults (sourced o f) k h all xs ts ≡ all_held_faults f k h all xs ts
  all_faults_so f o k h all xs none = refl
  all_faults_so f o k h all xs (skip ts) = all_faults_so f o k h all (xs ++ None ∷ []) ts
  all_faults_so f o k h all xs (more t ts) =
      let g = told k h all xs (kind_of t) in
      ap (λ fs. fs ++ all_held_faults (sourced o f) k h all (xs ++ Some (holding (sourced o f) g t) ∷ []) ts) (faults_so f o g t)
      ∙ ap (λ z. held_faults f g t ++ all_held_faults (sourced o f) k h all (xs ++ Some z ∷ []) ts) (held_so f o g t)
      ∙ ap (λ fs. held_faults f g t ++ fs) (all_faults_so f o k h all (xs ++ Some (holding f g t) ∷ []) ts)

-- ---- rules

-- right sides with the one of a local type
own_right_so : (f : Frame) (o : Option Tree) (n : Option ℕ) (t : Option TypeTree) → rights_of (with_own_right n t (sourced o f)) ≡ rights_of (with_own_right n t f)
own_right_so f o (Some n) t = refl
own_right_so f o None t = refl

type_so_judged : (f : Frame) (o : Option Tree) (i : ℕ) (ys : Parts) → on_two [] (λ n x. type_failing (sourced o f) i x) ys ≡ on_two [] (λ n x. type_failing f i x) ys
type_so_judged f o i [] = refl
type_so_judged f o i (None ∷ ys) = refl
type_so_judged f o i (Some x ∷ []) = refl
type_so_judged f o i (Some x ∷ None ∷ ys) = refl
type_so_judged f o i (Some x ∷ Some y ∷ []) = ap (λ r. first_fault (late_limits (rights_of f) r y)) (own_right_so f o (type_number f i) (part_type (Some y)))
type_so_judged f o i (Some x ∷ Some y ∷ z ∷ zs) = refl

failing_so : (f : Frame) (o : Option Tree) (k : Kind) (r : Form) (i j : ℕ) (ys : Parts) → failing (sourced o f) k r i j ys ≡ failing f k r i j ys
failing_so f o kind.ExpressionStatement r i j ys = refl
failing_so f o (kind.StepStatement z) r i j ys = refl
failing_so f o (kind.OperatorAssignment z) r i j ys = refl
failing_so f o kind.Assignment r i j ys = refl
failing_so f o kind.Define r i j ys = refl
failing_so f o (kind.Specification declaring.Variable) r i j ys = refl
failing_so f o (kind.Specification declaring.Constant) r i j ys = refl
failing_so f o (kind.Specification declaring.Type) r i j ys = type_so_judged f o i ys
failing_so f o kind.Return r i j ys = refl
failing_so f o kind.If r i j ys = refl
failing_so f o kind.For r i j ys = refl
failing_so f o kind.Switch r i j ys = refl
failing_so f o kind.Case r i j ys = refl
failing_so f o kind.FunctionDeclaration r i j ys = refl
failing_so f o k r i j ys = refl

taking_so : (f : Frame) (o : Option Tree) (k : Kind) (r : Form) (ys : Parts) → taking (sourced o f) k r ys ≡ taking f k r ys
taking_so f o (kind.OperatorAssignment z) r ys = refl
taking_so f o kind.Assignment r ys = refl
taking_so f o kind.Define r ys = refl
taking_so f o (kind.Specification declaring.Variable) r ys = refl
taking_so f o (kind.Specification declaring.Constant) r ys = refl
taking_so f o kind.Return r ys = refl
taking_so f o kind.If r ys = refl
taking_so f o kind.For r ys = refl
taking_so f o kind.DefiningRange r ys = refl
taking_so f o kind.Switch r ys = refl
taking_so f o kind.Case r ys = refl
taking_so f o k r ys = refl

pub own_so : (f : Frame) (o : Option Tree) (k : Kind) (r : Form) (i j : ℕ) (ys : Parts) → own_faults (sourced o f) k r i j ys ≡ own_faults f k r i j ys
own_so f o k r i j ys = ap (λ fs. cond (judges k ys) fs []) (failing_so f o k r i j ys)

pub built_so : (f : Frame) (o : Option Tree) (k : Kind) (r : Form) (i j : ℕ) (ys : Parts) (es : List TypeFault) → built_by (sourced o f) k r i j ys es ≡ built_by f k r i j ys es
built_so f o k r i j ys [] = ap (λ ks. made r i j sort.Nothing ys (all_given ks ys)) (taking_so f o k r ys)
built_so f o k r i j ys (e ∷ es) = refl

-- ---- frames

type_so : (o : Option Tree) (n : Option ℕ) (f : Frame) → with_type n (sourced o f) ≡ sourced o (with_type n f)
type_so o (Some n) f = refl
type_so o None f = refl

beginning_so : (o : Option Tree) (k : Kind) (i : ℕ) (f : Frame) → beginning k i (sourced o f) ≡ sourced o (beginning k i f)
beginning_so o (kind.Specification declaring.Type) i f = type_so o (local_named (f.around.objects i)) f
beginning_so o k i f = refl

parameter_so : (o : Option Tree) (n : Option ℕ) (t : Option TypeTree) (f : Frame) → with_parameter n t (sourced o f) ≡ sourced o (with_parameter n t f)
parameter_so o (Some n) (Some t) f = refl
parameter_so o (Some n) None f = refl
parameter_so o None t f = refl

parameters_so : (o : Option Tree) (ns : List (Option ℕ)) (ts : List (Option TypeTree)) (f : Frame) → with_parameters ns ts (sourced o f) ≡ sourced o (with_parameters ns ts f)
parameters_so o [] ts f = refl
parameters_so o (n ∷ ns) [] f = refl
parameters_so o (n ∷ ns) (t ∷ ts) f = ap (with_parameters ns ts) (parameter_so o n t f) ∙ parameters_so o ns ts (with_parameter n t f)

function_so : (o : Option Tree) (xs : Parts) (f : Frame) → in_function xs (sourced o f) ≡ sourced o (in_function xs f)
function_so o [] f = refl
function_so o (x ∷ []) f = parameters_so o (entry_names (first_parts x)) (entry_types (first_parts x)) (record f { results = signature_results f (part_type x) })
function_so o (x ∷ y ∷ ys) f = refl

switch_so : (o : Option Tree) (xs : Parts) (f : Frame) → in_switch xs (sourced o f) ≡ sourced o (in_switch xs f)
switch_so o [] f = refl
switch_so o (x ∷ []) f = refl
switch_so o (x ∷ y ∷ ys) f = refl

-- a kind in which constants are specified
abbrev OfConstants : Kind → Type 0
OfConstants (kind.Declaration declaring.Constant) = Unit {0}
OfConstants (kind.Group declaring.Constant) = Unit {0}
OfConstants (kind.Specification declaring.Constant) = Unit {0}
OfConstants k = ⊥

-- a specification of constants
abbrev OfSpecification : Kind → Type 0
OfSpecification (kind.Specification declaring.Constant) = Unit {0}
OfSpecification k = ⊥

entering_so : (o : Option Tree) (k : Kind) → (OfConstants k → ⊥) → (xs : Parts) (f : Frame) → entering k xs (sourced o f) ≡ sourced o (entering k xs f)
entering_so o (kind.Declaration declaring.Constant) w xs f = absurd (w tt)
entering_so o (kind.Group declaring.Constant) w xs f = absurd (w tt)
entering_so o kind.Switch w xs f = switch_so o xs f
entering_so o kind.FunctionDeclaration w xs f = function_so o xs f
entering_so o k w xs f = refl

sort_so : (o : Option Tree) (n : Option ℕ) (x : Stands) (f : Frame) → declares_sort n x (sourced o f) ≡ sourced o (declares_sort n x f)
sort_so o (Some n) sort.Nothing f = refl
sort_so o (Some n) x f = refl
sort_so o None x f = refl

name_so : (o : Option Tree) (x : Option Part) (f : Frame) → declares_name x (sourced o f) ≡ sourced o (declares_name x f)
name_so o None f = refl
name_so o (Some x) f = sort_so o (is_new (form_of x)) (sort_of x) f

names_so : (o : Option Tree) (xs : Parts) (f : Frame) → declares_all xs (sourced o f) ≡ sourced o (declares_all xs f)
names_so o [] f = refl
names_so o (x ∷ xs) f = ap (declares_all xs) (name_so o x f) ∙ names_so o xs (declares_name x f)

right_so : (o : Option Tree) (n : Option ℕ) (t : Option TypeTree) (f : Frame) → with_own_right n t (sourced o f) ≡ sourced o (with_own_right n t f)
right_so o (Some n) t f = refl
right_so o None t f = refl

leaving_so : (o : Option Tree) (k : Kind) → (OfSpecification k → ⊥) → (i : ℕ) (ps : Trees) (x : Part) (f : Frame) → leaving k i ps x (sourced o f) ≡ sourced o (leaving k i ps x f)
leaving_so o (kind.Specification declaring.Type) w i ps x f = right_so o (type_number f i) (right_side (list_of (parts_of x))) f
leaving_so o (kind.Specification declaring.Variable) w i ps x f = names_so o (list_of (parts_of x)) f
leaving_so o (kind.Specification declaring.Constant) w i ps x f = absurd (w tt)
leaving_so o kind.Define w i ps x f = names_so o (list_of (parts_of x)) f
leaving_so o kind.DefiningRange w i ps x f = names_so o (list_of (parts_of x)) f
leaving_so o k w i ps x f = refl

-- ---- readings

-- the same is read, and the frames behind differ in what is repeated alone
abbrev pub SameButSource : Reading → Reading → Type 0
SameButSource (read x fs f) (read y gs g) = (y ≡ x) × (gs ≡ fs) × ((o : Option Tree) × (g ≡ sourced o f))

abbrev AllButSource : Readings → Readings → Type 0
AllButSource (all_read xs fs f) (all_read ys gs g) = (ys ≡ xs) × (gs ≡ fs) × ((o : Option Tree) × (g ≡ sourced o f))

itself_read : (r : Readings) → AllButSource r r
itself_read (all_read xs fs f) = (refl, refl, (f.source, refl))

no_source : (k : Kind) (i j : ℕ) (ps : Trees) → (OfConstants k → ⊥) → HasNoSource (node k i j ps) → HaveNoSource ps
no_source (kind.Specification declaring.Constant) i j ps w h = absurd (w tt)
no_source (kind.Declaration declaring.Constant) i j ps w h = absurd (w tt)
no_source (kind.Group declaring.Constant) i j ps w h = absurd (w tt)
no_source k i j ps w h = h

closed_so : (k : Kind) → (OfSpecification k → ⊥) → (a : Frame) (o : Option Tree) (i j : ℕ) (ps : Trees) (r s : Readings) → AllButSource r s → SameButSource (closed a k i j ps r) (closed (sourced o a) k i j ps s)
closed_so k w a o i j ps (all_read xs fs f) (all_read ys gs g) e =
    let q = e.2.0 in
    let own = own_faults f k (form_by k xs) i j (layout f k i xs) in
    let x = built_by f k (form_by k xs) i j (layout f k i xs) own in
    let same_own : own_faults (sourced q f) k (form_by k xs) i j (layout (sourced q f) k i xs) ≡ own = ap (own_faults (sourced q f) k (form_by k xs) i j) (layout_so f q k i xs) ∙ own_so f q k (form_by k xs) i j (layout f k i xs) in
    let same_part : built_by (sourced q f) k (form_by k xs) i j (layout (sourced q f) k i xs) (own_faults (sourced q f) k (form_by k xs) i j (layout (sourced q f) k i xs)) ≡ x =
    ap (λ zs. built_by (sourced q f) k (form_by k xs) i j zs (own_faults (sourced q f) k (form_by k xs) i j (layout (sourced q f) k i xs))) (layout_so f q k i xs)
    ∙ ap (built_by (sourced q f) k (form_by k xs) i j (layout f k i xs)) same_own ∙ built_so f q k (form_by k xs) i j (layout f k i xs) own in
    subst (λ z. SameButSource (closed a k i j ps (all_read xs fs f)) (closed (sourced o a) k i j ps (all_read z gs g))) (sym e.0)
    (subst (λ z. SameButSource (closed a k i j ps (all_read xs fs f)) (closed (sourced o a) k i j ps (all_read xs z g))) (sym e.1)
    (subst (λ z. SameButSource (closed a k i j ps (all_read xs fs f)) (closed (sourced o a) k i j ps (all_read xs fs z))) (sym e.2.1) (
      same_part,
      ap (λ es. fs ++ es ∷ []) same_own,
      (q, ap (λ z. leaving k i ps z (back (sourced o a) (sourced q f))) same_part ∙ leaving_so q k w i ps x (back a f)),
    )))

after_so : (r s : Reading) → SameButSource r s → (n m : Part → Found → Frame → Readings) → ((x : Part) (fs : Found) (f : Frame) (o : Option Tree) → AllButSource (n x fs f) (m x fs (sourced o f))) → AllButSource (after r n) (after s m)
after_so (read x fs f) (read y gs g) e n m k =
    subst (λ z. AllButSource (n x fs f) (m z gs g)) (sym e.0) (subst (λ hs. AllButSource (n x fs f) (m x hs g)) (sym e.1) (subst (λ u. AllButSource (n x fs f) (m x fs u)) (sym e.2.1) (k x fs f e.2.0)))

either_so : (b : Bool) (r s u v : Reading) → SameButSource r s → SameButSource u v → SameButSource (cond b r u) (cond b s v)
either_so true r s u v c d = c
either_so false r s u v c d = d

left_none : (k : Kind) → (OfConstants k → ⊥) → (f : Frame) → left_out f k ≡ None
left_none (kind.Specification declaring.Constant) w f = absurd (w tt)
left_none k w f = refl

left_clear : (k : Kind) → (OfConstants k → ⊥) → (f : Frame) → left_out_faults f k ≡ []
left_clear (kind.Specification declaring.Constant) w f = absurd (w tt)
left_clear k w f = refl

left_so : (k : Kind) → (OfConstants k → ⊥) → (f : Frame) (o : Option Tree) → left_out (sourced o f) k ≡ left_out f k
left_so k w f o = left_none k w (sourced o f) ∙ sym (left_none k w f)

left_clear_so : (k : Kind) → (OfConstants k → ⊥) → (f : Frame) (o : Option Tree) → left_out_faults (sourced o f) k ≡ left_out_faults f k
left_clear_so k w f o = left_clear k w (sourced o f) ∙ sym (left_clear k w f)

-- what it is to be among constants
data Among (k : Kind) : Type 0 where
  specification : OfSpecification k → Among k
  declaration : OfConstants k → (OfSpecification k → ⊥) → ((i : ℕ) (s : Frame) → beginning k i s ≡ s) → ((f : Frame) (o : Option Tree) → entering k [] (sourced o f) ≡ entering k [] f) → Among k
  elsewhere : (OfConstants k → ⊥) → Among k

among : (k : Kind) → Among k
among (kind.Specification declaring.Constant) = specification tt
among (kind.Declaration declaring.Constant) = declaration tt (λ z. z) (λ i s. refl) (λ f o. refl)
among (kind.Group declaring.Constant) = declaration tt (λ z. z) (λ i s. refl) (λ f o. refl)
among k = elsewhere (λ z. z)

no_specification : (k : Kind) → (OfConstants k → ⊥) → OfSpecification k → ⊥
no_specification (kind.Specification declaring.Constant) w s = w tt
no_specification k w s = s

not_there : (k : Kind) (i j : ℕ) (ps : Trees) → OfSpecification k → HasNoSource (node k i j ps) → ⊥
not_there (kind.Specification declaring.Constant) i j ps s h = h
not_there k i j ps s h = s

-- the first specification forgets what is in front of all
constants_so : (k : Kind) → ((f : Frame) (o : Option Tree) → entering k [] (sourced o f) ≡ entering k [] f) → (f : Frame) (o : Option Tree) (h : Hint) (all ts : Trees)
    → AllButSource (readings f k h all [] [] ts) (readings (sourced o f) k h all [] [] ts)
constants_so k e f o h all none = (refl, refl, (o, refl))
constants_so k e f o h all (skip ts) =
    subst (λ z. AllButSource (readings f k h all [] [] (skip ts)) (readings z k h all ([] ++ left_out z k ∷ []) ([] ++ left_out_faults z k) ts)) (sym (e f o)) (itself_read (readings f k h all [] [] (skip ts)))
constants_so k e f o h all (more t ts) =
    subst (λ z. AllButSource (readings f k h all [] [] (more t ts)) (after (reading z (told k h all [] (kind_of t)) t) (λ x gs u. readings u k h all ([] ++ Some x ∷ []) ([] ++ gs) ts))) (sym (e f o)) (itself_read (readings f k h all [] [] (more t ts)))

statement_so : (f : Frame) (o : Option Tree) (h : Hint) (k : Kind) (i j : ℕ) (ps : Trees) → HasNoSource (node k i j ps) → Among k
    → ((OfConstants k → ⊥) → AllButSource (readings (beginning k i f) k h ps [] [] ps) (readings (sourced o (beginning k i f)) k h ps [] [] ps))
    → SameButSource (closed f k i j ps (readings (beginning k i f) k h ps [] [] ps)) (closed (sourced o f) k i j ps (readings (beginning k i (sourced o f)) k h ps [] [] ps))
statement_so f o h k i j ps w (specification s) r = absurd (not_there k i j ps s w)
statement_so f o h k i j ps w (declaration c s b e) r =
    subst (λ z. SameButSource (closed f k i j ps (readings (beginning k i f) k h ps [] [] ps)) (closed (sourced o f) k i j ps (readings z k h ps [] [] ps))) (sym (b i (sourced o f)))
    (subst (λ z. SameButSource (closed f k i j ps (readings z k h ps [] [] ps)) (closed (sourced o f) k i j ps (readings (sourced o f) k h ps [] [] ps))) (sym (b i f))
    (closed_so k s f o i j ps (readings f k h ps [] [] ps) (readings (sourced o f) k h ps [] [] ps) (constants_so k e f o h ps ps)))
statement_so f o h k i j ps w (elsewhere c) r =
    subst (λ z. SameButSource (closed f k i j ps (readings (beginning k i f) k h ps [] [] ps)) (closed (sourced o f) k i j ps (readings z k h ps [] [] ps))) (sym (beginning_so o k i f))
    (closed_so k (no_specification k c) f o i j ps (readings (beginning k i f) k h ps [] [] ps) (readings (sourced o (beginning k i f)) k h ps [] [] ps) (r c))

mutual
  pub reading_so : (f : Frame) (o : Option Tree) (h : Hint) (x : Tree) → HasNoSource x → SameButSource (reading f h x) (reading (sourced o f) h x)
  reading_so f o h (node k i j ps) w =
      either_so (is_statement k) (closed f k i j ps (readings (beginning k i f) k h ps [] [] ps)) (closed (sourced o f) k i j ps (readings (beginning k i (sourced o f)) k h ps [] [] ps))
      (read (holding f h (node k i j ps)) (held_faults f h (node k i j ps)) f) (read (holding (sourced o f) h (node k i j ps)) (held_faults (sourced o f) h (node k i j ps)) (sourced o f))
      (statement_so f o h k i j ps w (among k) (λ c. readings_so k c (beginning k i f) o h ps [] [] ps (no_source k i j ps c w)))
      (held_so f o h (node k i j ps), faults_so f o h (node k i j ps), (o, refl))

  readings_so : (k : Kind) → (OfConstants k → ⊥) → (f : Frame) (o : Option Tree) (h : Hint) (all : Trees) (xs : Parts) (fs : Found) (ts : Trees) → HaveNoSource ts
      → AllButSource (readings f k h all xs fs ts) (readings (sourced o f) k h all xs fs ts)
  readings_so k c f o h all xs fs none w = (refl, refl, (o, refl))
  readings_so k c f o h all xs fs (skip ts) w =
      let a = entering k xs f in
      subst (λ z. AllButSource (readings f k h all xs fs (skip ts)) (readings z k h all (xs ++ left_out z k ∷ []) (fs ++ left_out_faults z k) ts)) (sym (entering_so o k c xs f))
      (subst (λ z. AllButSource (readings f k h all xs fs (skip ts)) (readings (sourced o a) k h all (xs ++ z ∷ []) (fs ++ left_out_faults (sourced o a) k) ts)) (sym (left_so k c a o))
      (subst (λ z. AllButSource (readings f k h all xs fs (skip ts)) (readings (sourced o a) k h all (xs ++ left_out a k ∷ []) (fs ++ z) ts)) (sym (left_clear_so k c a o))
      (readings_so k c a o h all (xs ++ left_out a k ∷ []) (fs ++ left_out_faults a k) ts w)))
  readings_so k c f o h all xs fs (more t ts) w =
      let a = entering k xs f in
      let g = told k h all xs (kind_of t) in
      subst (λ z. AllButSource (readings f k h all xs fs (more t ts)) (after (reading z g t) (λ x gs u. readings u k h all (xs ++ Some x ∷ []) (fs ++ gs) ts))) (sym (entering_so o k c xs f))
      (after_so (reading a g t) (reading (sourced o a) g t) (reading_so a o g t w.0) (λ x gs u. readings u k h all (xs ++ Some x ∷ []) (fs ++ gs) ts) (λ x gs u. readings u k h all (xs ++ Some x ∷ []) (fs ++ gs) ts)
      (λ x gs u q. readings_so k c u q h all (xs ++ Some x ∷ []) (fs ++ gs) ts w.1))

-- ---- trees at their new places

mutual
  pub carried_so : (m : ℕ → ℕ) (x : Tree) → HasNoSource x → HasNoSource (carry m x)
  carried_so m (node (kind.Specification declaring.Constant) i j ps) w = w
  carried_so m (node (kind.Declaration declaring.Constant) i j ps) w = tt
  carried_so m (node (kind.Group declaring.Constant) i j ps) w = tt
  carried_so m (node k i j ps) w = all_carried_so m ps w

  all_carried_so : (m : ℕ → ℕ) (ts : Trees) → HaveNoSource ts → HaveNoSource (carries m ts)
  all_carried_so m none w = tt
  all_carried_so m (more t ts) w = (carried_so m t w.0, all_carried_so m ts w.1)
  all_carried_so m (skip ts) w = all_carried_so m ts w
