-- What names stand for, and the rules that fail at their assignments, where the functions of the package have other numbers: all is as before.
use Rattle.std.proofs.Common.{◌≡◌, ◌∙◌, ℕ, zero, suc, Bool, true, false, List, [], ◌∷◌, ◌++◌, Option, Some, None, length, refl, ap}
use Rattle.std.specs.Prelude.{◌==◌, ◌&&◌, not, if◌then◌else◌, replicate, slice_get}
use Rattle.go_base.specs.declared.fault.FaultCode.TheVariants as code
use Rattle.go_tree.specs.declared.context.Entity.{Entity}
use Rattle.go_tree.specs.declared.context.Entity.TheVariants as entity
use Rattle.go_types.specs.Trees.{TypeTree}
use Rattle.go_types.specs.Relations.{Rights}
use Rattle.go_typed.specs.Trees.{typed, sort_of}
use Rattle.go_exprs_rules.specs.declared.fault.TypeFault.{TypeFault}
use Rattle.go_exprs_rules.specs.Faults.{fault_at}
use Rattle.go_exprs_rules.specs.Settling.{Part, at_part, undefaulted, unassignable}
use Rattle.go_exprs_rules.specs.Sorts.{is_unknown, is_nil, is_constant, value_type}
use Rattle.go_exprs_rules.specs.Tables.{no_faults, is_lost}
use Rattle.go_exprs_rules.specs.TypeNodes.{part_type}
use Rattle.go_stmts_defs.specs.Assigning.{Wanted, called_results, whole_results, unassigned, all_unassigned, result_unassigned, results_unassigned, call_assigned, assignment_by, assignment_failing, constant_failing, constants_failing, constant_in, first_known, variable}
use Rattle.go_stmts_defs.specs.Rules.{variables_failing}
use Rattle.go_package_defs.specs.Declarations.{Specification, is_alone}
use Rattle.go_package_defs.specs.Verdicts.{assigned, constant_assigned, result_assigned, value_assigned, shared_value, variable_by, variable_assigned, assigned_as, assigned_if, are_judged, assigned_of, known_parts, counted, specification_failing}
use Rattle.go_exprs_elsewhere.specs.Elsewhere.{Moves, placed}
use Rattle.go_exprs_elsewhere.proofs.Public.{sort_kept, type_kept, count_kept, every, optional, fails, unassignable_kept, undefaulted_kept}
use Rattle.go_heads_added.specs.Added.{Gap}
use Rattle.go_package_added.specs.OneMore.{function_moves}

module _ (g : Gap) where
  abbrev pub m : Moves
  m = function_moves g

  pub fails_same : (fs : List TypeFault) → fails m fs ≡ fs
  fails_same [] = refl
  fails_same (f ∷ fs) = ap (λ gs. f ∷ gs) (fails_same fs)

  lost_same : (o : Option Part) → is_lost (optional m o) ≡ is_lost o
  lost_same None = refl
  lost_same (Some x) = ap is_unknown (sort_kept m x)

  module _ (rights : Rights) where
    unassigned_same : (t : Option TypeTree) (x : Part) → unassigned rights t (placed m x) ≡ unassigned rights t x
    unassigned_same (Some t) x = unassignable_kept m rights t x ∙ fails_same (unassignable rights t x)
    unassigned_same None (typed f i j l ps) =
        let x : Part = typed f i j l ps in ap (λ fs. if is_nil l.sort then at_part code.Operands x else fs) (undefaulted_kept m rights x ∙ fails_same (undefaulted rights x))

    all_same : (ts : Wanted) (xs : List Part) → all_unassigned rights ts (every m xs) ≡ all_unassigned rights ts xs
    all_same [] xs = refl
    all_same (t ∷ ts) [] = refl
    all_same (t ∷ ts) (x ∷ xs) = ap (λ fs. fs ++ all_unassigned rights ts (every m xs)) (unassigned_same t x) ∙ ap (λ fs. unassigned rights t x ++ fs) (all_same ts xs)

    result_same : (x : Part) (t : Option TypeTree) (r : TypeTree) → result_unassigned rights (placed m x) t r ≡ result_unassigned rights x t r
    result_same x None r = refl
    result_same (typed f i j l ps) (Some t) r = refl

    results_same : (x : Part) (ts : Wanted) (rs : List TypeTree) → results_unassigned rights (placed m x) ts rs ≡ results_unassigned rights x ts rs
    results_same x [] rs = refl
    results_same x (t ∷ ts) [] = refl
    results_same x (t ∷ ts) (r ∷ rs) = ap (λ fs. fs ++ results_unassigned rights (placed m x) ts rs) (result_same x t r) ∙ ap (λ fs. result_unassigned rights x t r ++ fs) (results_same x ts rs)

    call_same : (ts : Wanted) (xs : List Part) (rs : List TypeTree) → call_assigned rights ts (every m xs) rs ≡ call_assigned rights ts xs rs
    call_same ts [] rs = refl
    call_same ts (x ∷ xs) rs = results_same x ts rs

    by_same : (i j : ℕ) (ts : Wanted) (xs : List Part) (o : Option (List TypeTree)) → assignment_by rights i j ts (every m xs) o ≡ assignment_by rights i j ts xs o
    by_same i j ts xs (Some rs) = ap (λ fs. if length ts == length rs then fs else fault_at code.Count i j) (call_same ts xs rs)
    by_same i j ts xs None =
        ap (λ n. if length ts == n then all_unassigned rights ts (every m xs) else fault_at code.Count i j) (count_kept m xs)
        ∙ ap (λ fs. if length ts == length xs then fs else fault_at code.Count i j) (all_same ts xs)

    whole_same : (xs : List Part) → whole_results rights (every m xs) ≡ whole_results rights xs
    whole_same [] = refl
    whole_same (x ∷ []) = ap (called_results rights) (sort_kept m x)
    whole_same (x ∷ y ∷ ys) = refl

    assignment_same : (i j : ℕ) (ts : Wanted) (xs : List Part) → assignment_failing rights i j ts (every m xs) ≡ assignment_failing rights i j ts xs
    assignment_same i j ts xs = ap (assignment_by rights i j ts (every m xs)) (whole_same xs) ∙ by_same i j ts xs (whole_results rights xs)

    variables_same : (i j n : ℕ) (t : Option TypeTree) (xs : List Part) → variables_failing rights i j n t (every m xs) ≡ variables_failing rights i j n t xs
    variables_same i j n t [] = refl
    variables_same i j n t (x ∷ xs) = assignment_same i j (replicate n t) (x ∷ xs)

    constant_same : (t : Option TypeTree) (x : Part) → constant_failing rights t (placed m x) ≡ constant_failing rights t x
    constant_same (Some t) (typed f i j l ps) =
        let x : Part = typed f i j l ps in ap (λ fs. if is_constant l.sort then fs else at_part code.Operands x) (unassignable_kept m rights t x ∙ fails_same (unassignable rights t x))
    constant_same None (typed f i j l ps) = refl

    constants_same : (t : Option TypeTree) (xs : List Part) → constants_failing rights t (every m xs) ≡ constants_failing rights t xs
    constants_same t [] = refl
    constants_same t (x ∷ xs) = ap (λ fs. fs ++ constants_failing rights t (every m xs)) (constant_same t x) ∙ ap (λ fs. constant_failing rights t x ++ fs) (constants_same t xs)

    -- ---- a name

    constant_assigned_same : (t : Option TypeTree) (o : Option Part) → constant_assigned rights t (optional m o) ≡ constant_assigned rights t o
    constant_assigned_same t None = refl
    constant_assigned_same t (Some (typed f i j l ps)) = ap (assigned (constant_in t l.sort)) (constant_same t (typed f i j l ps))

    result_assigned_same : (t : Option TypeTree) (x : Part) (o : Option TypeTree) → result_assigned rights t (placed m x) o ≡ result_assigned rights t x o
    result_assigned_same t x None = refl
    result_assigned_same t x (Some r) = ap (assigned (variable (first_known t (Some r)))) (result_same x t r)

    value_same : (t : Option TypeTree) (x : Part) → value_assigned rights t (placed m x) ≡ value_assigned rights t x
    value_same t (typed f i j l ps) = ap (assigned (variable (first_known t (value_type l.sort)))) (unassigned_same t (typed f i j l ps))

    shared_same : (t : Option TypeTree) (x : Part) (alone : Bool) (c : ℕ) → shared_value rights t (placed m x) alone c ≡ shared_value rights t x alone c
    shared_same t x true zero = value_same t x
    shared_same t x true (suc c) = refl
    shared_same t x false c = value_same t x

    variable_by_same : (t : Option TypeTree) (x : Part) (alone : Bool) (c : ℕ) (o : Option (List TypeTree)) → variable_by rights t (placed m x) alone c o ≡ variable_by rights t x alone c o
    variable_by_same t x alone c (Some rs) = result_assigned_same t x (slice_get rs c)
    variable_by_same t x alone c None = shared_same t x alone c

    variable_same : (t : Option TypeTree) (o : Option Part) (alone : Bool) (c : ℕ) → variable_assigned rights t (optional m o) alone c ≡ variable_assigned rights t o alone c
    variable_same t None alone c = refl
    variable_same t (Some (typed f i j l ps)) alone c = variable_by_same t (typed f i j l ps) alone c (called_results rights l.sort)

    as_same : (e : Entity) (d : Specification) (c : ℕ) (t : Option TypeTree) (o : Option Part) → assigned_as e rights d c t (optional m o) ≡ assigned_as e rights d c t o
    as_same entity.Constant d c t o = constant_assigned_same t o
    as_same entity.Function d c t o = refl
    as_same entity.Type d c t o = refl
    as_same entity.Variable d c t o = variable_same t o (is_alone d) c
    as_same entity.Parameter d c t o = variable_same t o (is_alone d) c

    pub assigned_same : (d : Specification) (c : ℕ) (fs : List TypeFault) (t x : Option Part) → assigned_of rights d c fs (optional m t) (optional m x) ≡ assigned_of rights d c fs t x
    assigned_same d c fs t x =
        ap (λ b. assigned_if (no_faults fs && not b && not (is_lost (optional m x))) (assigned_as d.entity rights d c (part_type (optional m t)) (optional m x))) (lost_same t)
        ∙ ap (λ b. assigned_if (no_faults fs && not (is_lost t) && not b) (assigned_as d.entity rights d c (part_type (optional m t)) (optional m x))) (lost_same x)
        ∙ ap (λ o. assigned_if (are_judged fs t x) (assigned_as d.entity rights d c o (optional m x))) (type_kept m t)
        ∙ ap (assigned_if (are_judged fs t x)) (as_same d.entity d c (part_type t) x)

    -- ---- a specification

    known_same : (xs : List Part) → known_parts (every m xs) ≡ every m (known_parts xs)
    known_same [] = refl
    known_same (x ∷ xs) =
        ap (λ z. if is_unknown z then known_parts (every m xs) else placed m x ∷ known_parts (every m xs)) (sort_kept m x) ∙ by (is_unknown (sort_of x)) (known_same xs)
      where
        by : (b : Bool) → known_parts (every m xs) ≡ every m (known_parts xs)
            → (if b then known_parts (every m xs) else placed m x ∷ known_parts (every m xs)) ≡ every m (if b then known_parts xs else x ∷ known_parts xs)
        by true e = e
        by false e = ap (λ ys. placed m x ∷ ys) e

    pub failing_same : (e : Entity) (d : Specification) (t : Option TypeTree) (xs : List Part) → specification_failing e rights d t (every m xs) ≡ specification_failing e rights d t xs
    failing_same entity.Constant d t xs =
        ap (λ n. counted d.first d.last (length d.names) n ++ constants_failing rights t (known_parts (every m xs))) (count_kept m xs)
        ∙ ap (λ ys. counted d.first d.last (length d.names) (length xs) ++ constants_failing rights t ys) (known_same xs)
        ∙ ap (λ fs. counted d.first d.last (length d.names) (length xs) ++ fs) (constants_same t (known_parts xs))
    failing_same entity.Variable d t xs = variables_same d.first d.last (length d.names) t xs
    failing_same entity.Function d t xs = refl
    failing_same entity.Type d t xs = refl
    failing_same entity.Parameter d t xs = refl
