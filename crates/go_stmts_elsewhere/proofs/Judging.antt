-- The rules of statements at their new places.
use Rattle.std.proofs.Common.{◌≡◌, ◌∙◌, ℕ, zero, suc, ◌-◌, Bool, true, false, List, [], ◌∷◌, ◌++◌, map, length, Option, Some, None, refl, sym, ap}
use Rattle.std.specs.Prelude.{◌==◌, ◌||◌, not, if◌then◌else◌, nat_lt, take, drop, replicate}
use Rattle.go_base.specs.declared.fault.FaultCode.TheVariants as code
use Rattle.go_grammar.specs.declared.kind.Arithmetic.{Arithmetic}
use Rattle.go_grammar.specs.declared.kind.Comparison.TheVariants as comparison
use Rattle.go_grammar.specs.declared.kind.Kind.{Kind}
use Rattle.go_grammar.specs.declared.kind.Kind.TheVariants as kind
use Rattle.go_grammar.specs.declared.kind.Operator.TheVariants as operator
use Rattle.go_grammar.specs.declared.kind.Sort.TheVariants as declaring
use Rattle.go_types.specs.Trees.{TypeTree}
use Rattle.go_types.specs.Relations.{Rights}
use Rattle.go_types_relations.specs.Tests.{is_assignable}
use Rattle.go_typed.specs.declared.form.Form.{Form}
use Rattle.go_typed.specs.declared.form.Form.TheVariants as form
use Rattle.go_typed.specs.Trees.{typed, Typeds}
use Rattle.go_typed.specs.Trees as sort
use Rattle.go_exprs_rules.specs.declared.fault.TypeFault.{TypeFault}
use Rattle.go_exprs_rules.specs.Faults.{fault_at}
use Rattle.go_exprs_rules.specs.Operators.{compared_failing, operation_failing}
use Rattle.go_exprs_rules.specs.Settling.{Part, at_part, undefaulted, unassignable}
use Rattle.go_exprs_rules.specs.Sorts.{Stands, is_nil, is_constant, is_unknown, is_whole, own_type}
use Rattle.go_exprs_rules.specs.Tables.{Parts, present, on_one, on_two}
use Rattle.go_exprs_rules.specs.TypeNodes.{part_type}
use Rattle.go_stmts_defs.specs.Assigning.{at_nil, unassigned, assignment_failing, constant_failing, constants_failing}
use Rattle.go_stmts_defs.specs.Ending.{terminates}
use Rattle.go_stmts_defs.specs.Frames.{Frame, rights_of, with_own_right}
use Rattle.go_stmts_defs.specs.Laying.{type_number}
use Rattle.go_stmts_defs.specs.Rules.{each, not_a_target, not_a_variable, target_type, assign_failing, form_type, known_type, define_failing, step_failing, type_there, values_there, variables_failing, constants_counted, is_late, late_limits, all_late_limits, first_fault, type_failing, second_condition, tag_failing, second_tag, tag_at, case_failing}
use Rattle.go_stmts_defs.specs.Rules.{range_types, element_unassigned, elements_unassigned, number_target, is_open_number, number_unassigned, numbers_unassigned, range_assigned, targets_failing, range_failing, loop_failing, has_results, function_failing, names_in, split_at, failing, judges, own_faults}
use Rattle.go_stmts_defs.specs.Targets.{is_statement_call}
use Rattle.go_exprs_elsewhere.specs.Elsewhere.{Moves, form_moved, placed, all_placed}
use Rattle.go_exprs_elsewhere.proofs.Public.{one_kept, two_kept, judged_kept, operation_kept, made_kept, fails, optional, every, parts, present_kept, count_kept, either, either_of, both, at_part_kept, at_part_unless, undefaulted_kept, unassignable_kept, type_kept}
use Rattle.go_stmts_elsewhere.specs.Frames.{AlongFrames, PlaceKept, form_named}
use Rattle.go_stmts_elsewhere.proofs.Arranging.{type_number_along}
use Rattle.go_stmts_elsewhere.proofs.Assigning.{dropped_mapped, front_kept, back_kept, each_kept, unused_kept, target_type_kept, not_target_kept, not_variable_kept, step_kept, unassigned_kept, assignment_kept, assign_kept, second_condition_kept}
use Rattle.go_stmts_elsewhere.proofs.Ending.{terminates_kept}
use Rattle.go_stmts_elsewhere.proofs.Naming.{AllNamed}

module _ (m : Moves) where
  -- ---- specifications

  pub type_there_kept : (n : ℕ) (ys : Parts) → type_there n (parts m ys) ≡ type_there n ys
  type_there_kept zero [] = refl
  type_there_kept zero (y ∷ ys) = type_kept m y
  type_there_kept (suc n) [] = refl
  type_there_kept (suc n) (y ∷ ys) = type_there_kept n ys

  pub values_there_kept : (n : ℕ) (ys : Parts) → values_there n (parts m ys) ≡ every m (values_there n ys)
  values_there_kept n ys = ap present (dropped_mapped (optional m) (suc n) ys) ∙ present_kept m (drop (suc n) ys)

  at_nil_kept : (x : Part) → at_nil (placed m x) ≡ fails m (at_nil x)
  at_nil_kept (typed f i j l ps) = either_of m (is_nil l.sort) (at_part code.Operands (placed m (typed f i j l ps))) [] (at_part code.Operands (typed f i j l ps)) [] (at_part_kept m code.Operands (typed f i j l ps)) refl

  first_fault_kept : (fs : List TypeFault) → first_fault (fails m fs) ≡ fails m (first_fault fs)
  first_fault_kept [] = refl
  first_fault_kept (f ∷ fs) = refl

  has_some : (ts : List TypeTree) (j : ℕ) → m.token (j - 1) ≡ m.token j - 1 → (x : Part) → function_failing ts (m.token j) (placed m x) ≡ fails m (function_failing ts j x)
  has_some ts j e x =
      ap (λ b. if not (has_results ts) || b then [] else fault_at code.MissingReturn (m.token j - 1) (m.token j)) (terminates_kept m x)
      ∙ ap (λ n. if not (has_results ts) || terminates x then [] else fault_at code.MissingReturn n (m.token j)) (sym e)
      ∙ either m (not (has_results ts) || terminates x) [] (fault_at code.MissingReturn (j - 1) j)

  number_target_kept : (ts : List Part) → number_target (every m ts) ≡ number_target ts
  number_target_kept [] = refl
  number_target_kept (t ∷ ts) = target_type_kept m t

  module _ (rights : Rights) where
    variables_kept : (i j n : ℕ) (t : Option TypeTree) (xs : List Part) → variables_failing rights (m.token i) (m.token j) n t (every m xs) ≡ fails m (variables_failing rights i j n t xs)
    variables_kept i j n t [] = refl
    variables_kept i j n t (x ∷ xs) = assignment_kept m rights i j (replicate n t) (x ∷ xs)

    constant_kept : (t : Option TypeTree) (x : Part) → constant_failing rights t (placed m x) ≡ fails m (constant_failing rights t x)
    constant_kept (Some t) (typed f i j l ps) =
        let x = typed f i j l ps in
        either_of m (is_constant l.sort) (unassignable rights t (placed m x)) (at_part code.Operands (placed m x)) (unassignable rights t x) (at_part code.Operands x) (unassignable_kept m rights t x) (at_part_kept m code.Operands x)
    constant_kept None (typed f i j l ps) = at_part_unless m (is_constant l.sort) code.Operands (typed f i j l ps)

    each_constant_kept : (t : Option TypeTree) (xs : List Part) → constants_failing rights t (every m xs) ≡ fails m (constants_failing rights t xs)
    each_constant_kept t [] = refl
    each_constant_kept t (x ∷ xs) = both m (constant_failing rights t (placed m x)) (constants_failing rights t (every m xs)) (constant_failing rights t x) (constants_failing rights t xs) (constant_kept t x) (each_constant_kept t xs)

    constants_kept : (i j n : ℕ) (t : Option TypeTree) (xs : List Part) → constants_counted rights (m.token i) (m.token j) n t (every m xs) ≡ fails m (constants_counted rights i j n t xs)
    constants_kept i j n t xs =
        both m (if n == length (every m xs) then [] else fault_at code.Count (m.token i) (m.token j)) (constants_failing rights t (every m xs)) (if n == length xs then [] else fault_at code.Count i j) (constants_failing rights t xs)
        (ap (λ k. if n == k then [] else fault_at code.Count (m.token i) (m.token j)) (count_kept m xs) ∙ either m (n == length xs) [] (fault_at code.Count i j)) (each_constant_kept t xs)

    module _ (behind : Rights) where
      mutual
        late_kept : (x : Part) → late_limits rights behind (placed m x) ≡ fails m (late_limits rights behind x)
        late_kept (typed f i j l ps) =
            both m (all_late_limits rights behind (all_placed m ps)) (if is_late rights behind l.sort then fault_at code.Limit (m.token i) (m.token j) else []) (all_late_limits rights behind ps) (if is_late rights behind l.sort then fault_at code.Limit i j else [])
            (all_late_kept ps) (either m (is_late rights behind l.sort) (fault_at code.Limit i j) [])

        all_late_kept : (ps : Typeds TypeTree) → all_late_limits rights behind (all_placed m ps) ≡ fails m (all_late_limits rights behind ps)
        all_late_kept sort.none = refl
        all_late_kept (sort.more x ps) = both m (late_limits rights behind (placed m x)) (all_late_limits rights behind (all_placed m ps)) (late_limits rights behind x) (all_late_limits rights behind ps) (late_kept x) (all_late_kept ps)
        all_late_kept (sort.skip ps) = all_late_kept ps

    -- ---- tags and cases

    tag_kept : (x : Option Part) → tag_failing rights (optional m x) ≡ fails m (tag_failing rights x)
    tag_kept None = refl
    tag_kept (Some (typed f i j l ps)) =
        let x = typed f i j l ps in
        either_of m (is_nil l.sort) (at_part code.Operands (placed m x)) (undefaulted rights (placed m x)) (at_part code.Operands x) (undefaulted rights x) (at_part_kept m code.Operands x) (undefaulted_kept m rights x)

    second_tag_kept : (ys : Parts) → second_tag rights (parts m ys) ≡ fails m (second_tag rights ys)
    second_tag_kept [] = refl
    second_tag_kept (y ∷ []) = refl
    second_tag_kept (y ∷ z ∷ zs) = tag_kept z

    case_kept : (tag : Stands) (x : Part) → case_failing rights tag (placed m x) ≡ fails m (case_failing rights tag x)
    case_kept tag (typed f i j l ps) =
        let x = typed f i j l ps in
        either_of m (is_unknown tag) [] (compared_failing rights comparison.Equal (m.token i) (m.token j) (tag_at tag (placed m x)) (placed m x)) [] (compared_failing rights comparison.Equal i j (tag_at tag x) x) refl
        (ap (λ z. compared_failing rights comparison.Equal (m.token i) (m.token j) z (placed m x)) (made_kept m form.Literal i j tag [] []) ∙ operation_kept m rights (operator.Compare comparison.Equal) i j (tag_at tag x) x)

    -- ---- loops

    element_kept : (x : Part) (t : Option TypeTree) (r : TypeTree) → element_unassigned rights (placed m x) t r ≡ fails m (element_unassigned rights x t r)
    element_kept x None r = refl
    element_kept x (Some t) r = at_part_unless m (is_assignable rights r t) code.Assignable x

    elements_kept : (x : Part) (ts : List Part) (rs : List TypeTree) → elements_unassigned rights (placed m x) (every m ts) rs ≡ fails m (elements_unassigned rights x ts rs)
    elements_kept x [] rs = refl
    elements_kept x (t ∷ ts) [] = refl
    elements_kept x (t ∷ ts) (r ∷ rs) =
        both m (element_unassigned rights (placed m x) (target_type (placed m t)) r) (elements_unassigned rights (placed m x) (every m ts) rs) (element_unassigned rights x (target_type t) r) (elements_unassigned rights x ts rs)
        (ap (λ u. element_unassigned rights (placed m x) u r) (target_type_kept m t) ∙ element_kept x (target_type t) r) (elements_kept x ts rs)

    number_kept : (ts : List Part) (x : Part) (rs : List TypeTree) → number_unassigned rights (every m ts) (placed m x) rs ≡ fails m (number_unassigned rights ts x rs)
    number_kept ts x rs = both m (undefaulted rights (placed m x)) (elements_unassigned rights (placed m x) (every m ts) rs) (undefaulted rights x) (elements_unassigned rights x ts rs) (undefaulted_kept m rights x) (elements_kept x ts rs)

    numbers_kept : (i j : ℕ) (ts : List Part) (x : Part) (rs : List TypeTree) → numbers_unassigned rights (m.token i) (m.token j) (every m ts) (placed m x) rs ≡ fails m (numbers_unassigned rights i j ts x rs)
    numbers_kept i j ts (typed f a b l ps) rs =
        let x = typed f a b l ps in
        let us : List TypeFault = if is_open_number l.sort then unassigned rights (number_target (every m ts)) (placed m x) else number_unassigned rights (every m ts) (placed m x) rs in
        let vs : List TypeFault = if is_open_number l.sort then unassigned rights (number_target ts) x else number_unassigned rights ts x rs in
        ap (λ n. if nat_lt 1 n then fault_at code.Count (m.token i) (m.token j) else us) (count_kept m ts)
        ∙ either_of m (nat_lt 1 (length ts)) (fault_at code.Count (m.token i) (m.token j)) us (fault_at code.Count i j) vs refl
        (either_of m (is_open_number l.sort) (unassigned rights (number_target (every m ts)) (placed m x)) (number_unassigned rights (every m ts) (placed m x) rs) (unassigned rights (number_target ts) x) (number_unassigned rights ts x rs)
        (ap (λ t. unassigned rights t (placed m x)) (number_target_kept ts) ∙ unassigned_kept m rights (number_target ts) x) (number_kept ts x rs))

    range_assigned_kept : (i j : ℕ) (ts : List Part) (x : Part) (o : Option (List TypeTree)) → range_assigned rights (m.token i) (m.token j) (every m ts) (placed m x) o ≡ fails m (range_assigned rights i j ts x o)
    range_assigned_kept i j ts x None = at_part_kept m code.Operands x
    range_assigned_kept i j ts (typed f a b l ps) (Some rs) =
        let x = typed f a b l ps in
        either_of m (is_whole rights l.sort) (numbers_unassigned rights (m.token i) (m.token j) (every m ts) (placed m x) rs) (elements_unassigned rights (placed m x) (every m ts) rs) (numbers_unassigned rights i j ts x rs) (elements_unassigned rights x ts rs)
        (numbers_kept i j ts x rs) (elements_kept x ts rs)

    targets_kept : (b : Bool) (ts : List Part) → targets_failing rights b (every m ts) ≡ fails m (targets_failing rights b ts)
    targets_kept true ts = refl
    targets_kept false ts = each_kept m (not_a_target rights) (not_target_kept m rights) ts

    pub range_types_kept : (x : Part) → range_types rights (placed m x) ≡ range_types rights x
    range_types_kept (typed f i j l ps) = refl

    range_kept : (i j : ℕ) (b : Bool) (ts xs : List Part) → range_failing rights (m.token i) (m.token j) b (every m ts) (every m xs) ≡ fails m (range_failing rights i j b ts xs)
    range_kept i j b ts [] = refl
    range_kept i j b ts (x ∷ xs) =
        both m (targets_failing rights b (every m ts)) (range_assigned rights (m.token i) (m.token j) (every m ts) (placed m x) (range_types rights (placed m x))) (targets_failing rights b ts) (range_assigned rights i j ts x (range_types rights x))
        (targets_kept b ts) (ap (range_assigned rights (m.token i) (m.token j) (every m ts) (placed m x)) (range_types_kept x) ∙ range_assigned_kept i j ts x (range_types rights x))

    loop_kept : (f : Form) (i j : ℕ) (ys : Parts) → loop_failing rights f (m.token i) (m.token j) (parts m ys) ≡ fails m (loop_failing rights f i j ys)
    loop_kept (form.Range b n) i j ys =
        ap (λ ts. range_failing rights (m.token i) (m.token j) b ts (drop n (present (parts m ys)))) (front_kept m n ys)
        ∙ ap (range_failing rights (m.token i) (m.token j) b (every m (take n (present ys)))) (back_kept m n ys)
        ∙ range_kept i j b (take n (present ys)) (drop n (present ys))
    loop_kept f i j ys = second_condition_kept m rights ys

    assign_fails : (n i j : ℕ) (ys : Parts) → split_at n (assign_failing rights (m.token i) (m.token j)) (parts m ys) ≡ fails m (split_at n (assign_failing rights i j) ys)
    assign_fails n i j ys =
        ap (λ ts. assign_failing rights (m.token i) (m.token j) ts (drop n (present (parts m ys)))) (front_kept m n ys)
        ∙ ap (assign_failing rights (m.token i) (m.token j) (every m (take n (present ys)))) (back_kept m n ys)
        ∙ assign_kept m rights i j (take n (present ys)) (drop n (present ys))

    operate_fails : (o : Arithmetic) (i j : ℕ) (ys : Parts)
        → on_two [] (λ x y. not_a_variable rights x ++ operation_failing rights (operator.Compute o) (m.token i) (m.token j) x y) (parts m ys)
        ≡ fails m (on_two [] (λ x y. not_a_variable rights x ++ operation_failing rights (operator.Compute o) i j x y) ys)
    operate_fails o i j ys =
        two_kept m (fails m) [] (λ x y. not_a_variable rights x ++ operation_failing rights (operator.Compute o) i j x y) (λ x y. not_a_variable rights x ++ operation_failing rights (operator.Compute o) (m.token i) (m.token j) x y)
        (λ x y. both m (not_a_variable rights (placed m x)) (operation_failing rights (operator.Compute o) (m.token i) (m.token j) (placed m x) (placed m y)) (not_a_variable rights x) (operation_failing rights (operator.Compute o) i j x y)
        (not_variable_kept m rights x) (operation_kept m rights (operator.Compute o) i j x y)) ys

  -- ---- in two frames

  module _ (l : ℕ → Bool) (f g : Frame) (c : AlongFrames m l f g) where
    abbrev old : Rights
    old = f.around.rights

    form_type_along : (r : Form) → form_named l r → form_type g.locals (form_moved m r) ≡ form_type f.locals r
    form_type_along (form.Local n) e = ap own_type (c.locals n e)
    form_type_along r e = refl

    -- the types that the names of `:=` have already
    pub known_along : (xs : List Part) → AllNamed l (map (λ x. Some x) xs) → map (known_type g.locals) (every m xs) ≡ map (known_type f.locals) xs
    known_along [] e = refl
    known_along (typed r i j a ps ∷ xs) e =
        ap (λ t. t ∷ map (known_type g.locals) (every m xs)) (form_type_along r e.0.0) ∙ ap (λ ts. form_type f.locals r ∷ ts) (known_along xs e.1)

    all_named : (ys : Parts) → AllNamed l ys → AllNamed l (map (λ x. Some x) (present ys))
    all_named [] e = tt
    all_named (None ∷ ys) e = all_named ys e
    all_named (Some y ∷ ys) e = (e.0, all_named ys e.1)

    some_named : (n : ℕ) (xs : List Part) → AllNamed l (map (λ x. Some x) xs) → AllNamed l (map (λ x. Some x) (take n xs))
    some_named zero xs e = tt
    some_named (suc n) [] e = tt
    some_named (suc n) (x ∷ xs) e = (e.0, some_named n xs e.1)

    pub front_named : (n : ℕ) (ys : Parts) → AllNamed l ys → AllNamed l (map (λ x. Some x) (take n (present ys)))
    front_named n ys e = some_named n (present ys) (all_named ys e)

    define_along : (i j : ℕ) (ns xs : List Part) → AllNamed l (map (λ x. Some x) ns) → define_failing g (m.token i) (m.token j) (every m ns) (every m xs) ≡ fails m (define_failing f i j ns xs)
    define_along i j ns xs e =
        both m (each at_nil (every m xs)) (assignment_failing (rights_of g) (m.token i) (m.token j) (map (known_type g.locals) (every m ns)) (every m xs)) (each at_nil xs) (assignment_failing old i j (map (known_type f.locals) ns) xs)
        (each_kept m at_nil at_nil_kept xs)
        (ap (λ r. assignment_failing r (m.token i) (m.token j) (map (known_type g.locals) (every m ns)) (every m xs)) c.rights
        ∙ ap (λ ts. assignment_failing old (m.token i) (m.token j) ts (every m xs)) (known_along ns e)
        ∙ assignment_kept m old i j (map (known_type f.locals) ns) xs)

    own_right_along : (o : Option ℕ) (t : Option TypeTree) → rights_of (with_own_right o t g) ≡ rights_of (with_own_right o t f)
    own_right_along None t = c.rights
    own_right_along (Some n) t = let e = c.rights in cc

    type_along : (i : ℕ) (x : Part) → type_failing g (m.token i) (placed m x) ≡ fails m (type_failing f i x)
    type_along i x =
        let t = part_type (Some x) in
        let behind = rights_of (with_own_right (type_number f i) t f) in
        ap (λ o. first_fault (late_limits (rights_of g) (rights_of (with_own_right o (part_type (Some (placed m x))) g)) (placed m x))) (type_number_along m l f g c i)
        ∙ ap (λ u. first_fault (late_limits (rights_of g) (rights_of (with_own_right (type_number f i) u g)) (placed m x))) (type_kept m (Some x))
        ∙ ap (λ r. first_fault (late_limits (rights_of g) r (placed m x))) (own_right_along (type_number f i) t)
        ∙ ap (λ r. first_fault (late_limits r behind (placed m x))) c.rights
        ∙ ap first_fault (late_kept old behind x) ∙ first_fault_kept (late_limits old behind x)

    failing_along : (k : Kind) (r : Form) (i j : ℕ) (ys : Parts) → AllNamed l ys → PlaceKept m k i j → failing g k r (m.token i) (m.token j) (parts m ys) ≡ fails m (failing f k r i j ys)
    failing_along kind.ExpressionStatement r i j ys n w =
        one_kept m (fails m) [] (λ x. if is_statement_call x then [] else at_part code.UnusedValue x) (λ x. if is_statement_call x then [] else at_part code.UnusedValue x) (unused_kept m) ys
    failing_along (kind.StepStatement o) r i j ys n w =
        ap (λ rights. on_one [] (step_failing rights (m.token i) (m.token j)) (parts m ys)) c.rights ∙ one_kept m (fails m) [] (step_failing old i j) (step_failing old (m.token i) (m.token j)) (step_kept m old i j) ys
    failing_along (kind.OperatorAssignment o) r i j ys n w =
        ap (λ rights. on_two [] (λ x y. not_a_variable rights x ++ operation_failing rights (operator.Compute o) (m.token i) (m.token j) x y) (parts m ys)) c.rights ∙ operate_fails old o i j ys
    failing_along kind.Assignment r i j ys n w =
        ap (λ rights. split_at (names_in r) (assign_failing rights (m.token i) (m.token j)) (parts m ys)) c.rights ∙ assign_fails old (names_in r) i j ys
    failing_along kind.Define r i j ys n w =
        ap (λ ns. define_failing g (m.token i) (m.token j) ns (drop (names_in r) (present (parts m ys)))) (front_kept m (names_in r) ys)
        ∙ ap (define_failing g (m.token i) (m.token j) (every m (take (names_in r) (present ys)))) (back_kept m (names_in r) ys)
        ∙ define_along i j (take (names_in r) (present ys)) (drop (names_in r) (present ys)) (front_named (names_in r) ys n)
    failing_along (kind.Specification declaring.Variable) r i j ys n w =
        ap (λ rights. variables_failing rights (m.token i) (m.token j) (names_in r) (type_there (names_in r) (parts m ys)) (values_there (names_in r) (parts m ys))) c.rights
        ∙ ap (λ t. variables_failing old (m.token i) (m.token j) (names_in r) t (values_there (names_in r) (parts m ys))) (type_there_kept (names_in r) ys)
        ∙ ap (variables_failing old (m.token i) (m.token j) (names_in r) (type_there (names_in r) ys)) (values_there_kept (names_in r) ys)
        ∙ variables_kept old i j (names_in r) (type_there (names_in r) ys) (values_there (names_in r) ys)
    failing_along (kind.Specification declaring.Constant) r i j ys n w =
        ap (λ rights. constants_counted rights (m.token i) (m.token j) (names_in r) (type_there (names_in r) (parts m ys)) (values_there (names_in r) (parts m ys))) c.rights
        ∙ ap (λ t. constants_counted old (m.token i) (m.token j) (names_in r) t (values_there (names_in r) (parts m ys))) (type_there_kept (names_in r) ys)
        ∙ ap (constants_counted old (m.token i) (m.token j) (names_in r) (type_there (names_in r) ys)) (values_there_kept (names_in r) ys)
        ∙ constants_kept old i j (names_in r) (type_there (names_in r) ys) (values_there (names_in r) ys)
    failing_along (kind.Specification declaring.Type) r i j ys n w = two_kept m (fails m) [] (λ n x. type_failing f i x) (λ n x. type_failing g (m.token i) x) (λ n x. type_along i x) ys
    failing_along kind.Return r i j ys n w =
        ap (λ rights. assignment_failing rights (m.token i) (m.token j) (map (λ t. Some t) g.results) (present (parts m ys))) c.rights
        ∙ ap (λ ts. assignment_failing old (m.token i) (m.token j) (map (λ t. Some t) ts) (present (parts m ys))) c.results
        ∙ ap (assignment_failing old (m.token i) (m.token j) (map (λ t. Some t) f.results)) (present_kept m ys)
        ∙ assignment_kept m old i j (map (λ t. Some t) f.results) (present ys)
    failing_along kind.If r i j ys n w = ap (λ rights. second_condition rights (parts m ys)) c.rights ∙ second_condition_kept m old ys
    failing_along kind.For r i j ys n w = ap (λ rights. loop_failing rights r (m.token i) (m.token j) (parts m ys)) c.rights ∙ loop_kept old r i j ys
    failing_along kind.Switch r i j ys n w = ap (λ rights. second_tag rights (parts m ys)) c.rights ∙ second_tag_kept old ys
    failing_along kind.Case r i j ys n w =
        ap (λ rights. each (case_failing rights g.tag) (take (names_in r) (present (parts m ys)))) c.rights
        ∙ ap (λ z. each (case_failing old z) (take (names_in r) (present (parts m ys)))) c.tag ∙ ap (each (case_failing old f.tag)) (front_kept m (names_in r) ys)
        ∙ each_kept m (case_failing old f.tag) (case_kept old f.tag) (take (names_in r) (present ys))
    failing_along kind.FunctionDeclaration r i j ys n w =
        ap (λ ts. on_one [] (function_failing ts (m.token j)) (parts m ys)) c.results
        ∙ one_kept m (fails m) [] (function_failing f.results j) (function_failing f.results (m.token j)) (has_some f.results j w) ys
    failing_along k r i j ys n w = refl

    judges_kept : (k : Kind) (ys : Parts) → judges k (parts m ys) ≡ judges k ys
    judges_kept kind.For ys = refl
    judges_kept k ys = judged_kept m ys

    pub own_faults_along : (k : Kind) (r : Form) (i j : ℕ) (ys : Parts) → AllNamed l ys → PlaceKept m k i j → own_faults g k r (m.token i) (m.token j) (parts m ys) ≡ fails m (own_faults f k r i j ys)
    own_faults_along k r i j ys n w =
        ap (λ b. if b then failing g k r (m.token i) (m.token j) (parts m ys) else []) (judges_kept k ys)
        ∙ either_of m (judges k ys) (failing g k r (m.token i) (m.token j) (parts m ys)) [] (failing f k r i j ys) [] (failing_along k r i j ys n w) refl
