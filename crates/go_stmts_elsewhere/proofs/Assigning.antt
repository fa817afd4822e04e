-- Assignments, conditions and calls that are statements at their new places.
use Rattle.std.proofs.Common.{◌≡◌, ◌∙◌, ℕ, zero, suc, Bool, false, List, [], ◌∷◌, ◌++◌, map, length, Option, Some, None, refl, ap}
use Rattle.std.specs.Prelude.{◌==◌, ◌&&◌, ◌||◌, if◌then◌else◌, take, drop}
use Rattle.go_base.specs.declared.fault.FaultCode.TheVariants as code
use Rattle.go_types.specs.Trees.{TypeTree}
use Rattle.go_types.specs.Relations.{Rights}
use Rattle.go_types_relations.specs.Tests.{is_assignable}
use Rattle.go_typed.specs.declared.form.Form.{Form}
use Rattle.go_typed.specs.declared.form.Form.TheVariants as form
use Rattle.go_typed.specs.Trees.{typed, Typeds, sort_of, list_of}
use Rattle.go_typed.specs.Trees as sort
use Rattle.go_exprs_rules.specs.declared.fault.TypeFault.{TypeFault}
use Rattle.go_exprs_rules.specs.Faults.{fault_at}
use Rattle.go_exprs_rules.specs.Names.{is_blank}
use Rattle.go_exprs_rules.specs.Settling.{Part, as_type, at_part, undefaulted}
use Rattle.go_exprs_rules.specs.Sorts.{Stands, is_nil, is_truth, is_unknown, is_whole}
use Rattle.go_exprs_rules.specs.Tables.{Parts, present, on_first, is_variable_name, is_call}
use Rattle.go_stmts_defs.specs.Assigning.{Wanted, takes, called_results, whole_results, unassigned, all_unassigned, result_unassigned, results_unassigned, call_assigned, assignment_by, assignment_failing, type_or_default, values_take}
use Rattle.go_stmts_defs.specs.Rules.{each, not_a_target, not_a_variable, target_type, assign_failing, step_failing, condition_failing, second_condition, rest, assign_takes, returned}
use Rattle.go_stmts_defs.specs.Targets.{through, is_variable, first_varies, is_target, bare, first_bare, acts, callee_passes, is_statement_call}
use Rattle.go_exprs_elsewhere.specs.Elsewhere.{Moves, form_moved, placed, all_placed}
use Rattle.go_stmts_elsewhere.proofs.Arranging.{taken_mapped}
use Rattle.go_exprs_elsewhere.proofs.Public.{first_kept, fails, optional, every, parts, sort_kept, list_kept, present_kept, count_kept, variable_moved, call_moved, either, either_of, both, at_part_kept, at_part_unless, undefaulted_kept, unassignable_kept}

pub dropped_mapped : {A B : Type 0} (f : A → B) (n : ℕ) (xs : List A) → drop n (map f xs) ≡ map f (drop n xs)
dropped_mapped f zero xs = refl
dropped_mapped f (suc n) [] = refl
dropped_mapped f (suc n) (x ∷ xs) = dropped_mapped f n xs

module _ (m : Moves) where
  pub front_kept : (n : ℕ) (ys : Parts) → take n (present (parts m ys)) ≡ every m (take n (present ys))
  front_kept n ys = ap (take n) (present_kept m ys) ∙ taken_mapped (placed m) n (present ys)

  pub back_kept : (n : ℕ) (ys : Parts) → drop n (present (parts m ys)) ≡ every m (drop n (present ys))
  back_kept n ys = ap (drop n) (present_kept m ys) ∙ dropped_mapped (placed m) n (present ys)

  pub each_kept : (rule : Part → List TypeFault) → ((x : Part) → rule (placed m x) ≡ fails m (rule x)) → (xs : List Part) → each rule (every m xs) ≡ fails m (each rule xs)
  each_kept rule e [] = refl
  each_kept rule e (x ∷ xs) = both m (rule (placed m x)) (each rule (every m xs)) (rule x) (each rule xs) (e x) (each_kept rule e xs)

  -- ---- calls that are statements

  mutual
    pub bare_kept : (x : Part) → bare (placed m x) ≡ placed m (bare x)
    bare_kept (typed form.Parenthesized i j l ps) = first_bare_kept (typed form.Parenthesized i j l ps) ps
    bare_kept (typed f i j l ps) = refl

    first_bare_kept : (x : Part) (ps : Typeds TypeTree) → first_bare (placed m x) (all_placed m ps) ≡ placed m (first_bare x ps)
    first_bare_kept x sort.none = refl
    first_bare_kept x (sort.more p ps) = bare_kept p
    first_bare_kept x (sort.skip ps) = refl

  pub passes_kept : (p : Stands → Bool) (x : Part) → callee_passes p (placed m x) ≡ callee_passes p x
  passes_kept p (typed f i j l ps) =
      ap (λ b. b && on_first false (λ c xs. p (sort_of c)) (list_of (all_placed m ps))) (call_moved m f)
      ∙ ap (λ ys. is_call f && on_first false (λ c xs. p (sort_of c)) ys) (list_kept m ps)
      ∙ ap (λ b. is_call f && b) (first_kept m (λ b. b) false (λ c xs. p (sort_of c)) (λ c xs. p (sort_of c)) (λ x ys. ap p (sort_kept m x)) (list_of ps))

  pub statement_call_kept : (x : Part) → is_statement_call (placed m x) ≡ is_statement_call x
  statement_call_kept x = ap (callee_passes acts) (bare_kept x) ∙ passes_kept acts (bare x)

  pub unused_kept : (x : Part) → (if is_statement_call (placed m x) then [] else at_part code.UnusedValue (placed m x)) ≡ fails m (if is_statement_call x then [] else at_part code.UnusedValue x)
  unused_kept x = ap (λ b. if b then [] else at_part code.UnusedValue (placed m x)) (statement_call_kept x) ∙ at_part_unless m (is_statement_call x) code.UnusedValue x

  pub target_type_kept : (x : Part) → target_type (placed m x) ≡ target_type x
  target_type_kept (typed f i j l ps) = refl

  pub target_types : (xs : List Part) → map target_type (every m xs) ≡ map target_type xs
  target_types [] = refl
  target_types (x ∷ xs) = ap (λ t. t ∷ map target_type (every m xs)) (target_type_kept x) ∙ ap (λ ts. target_type x ∷ ts) (target_types xs)

  module _ (rights : Rights) where
    -- ---- variables and targets

    through_moved : (f : Form) (x : Stands) (b : Bool) → through rights (form_moved m f) x b ≡ through rights f x b
    through_moved form.Parenthesized x b = refl
    through_moved (form.Selector n) x b = refl
    through_moved form.Index x b = refl
    through_moved f x b = refl

    mutual
      variable_kept : (x : Part) → is_variable rights (placed m x) ≡ is_variable rights x
      variable_kept (typed f i j l ps) =
          ap (λ b. b || first_varies rights (form_moved m f) (all_placed m ps)) (variable_moved m f l.sort) ∙ ap (λ b. is_variable_name f l.sort || b) (first_varies_kept f ps)

      first_varies_kept : (f : Form) (ps : Typeds TypeTree) → first_varies rights (form_moved m f) (all_placed m ps) ≡ first_varies rights f ps
      first_varies_kept f sort.none = refl
      first_varies_kept f (sort.more p ps) =
          ap (λ s. through rights (form_moved m f) s (is_variable rights (placed m p))) (sort_kept m p) ∙ ap (through rights (form_moved m f) (sort_of p)) (variable_kept p)
          ∙ through_moved f (sort_of p) (is_variable rights p)
      first_varies_kept f (sort.skip ps) = refl

    target_kept : (x : Part) → is_target rights (placed m x) ≡ is_target rights x
    target_kept x =
        ap (λ s. is_blank s || is_unknown s || is_variable rights (placed m x)) (sort_kept m x) ∙ ap (λ b. is_blank (sort_of x) || is_unknown (sort_of x) || b) (variable_kept x)

    pub not_target_kept : (x : Part) → not_a_target rights (placed m x) ≡ fails m (not_a_target rights x)
    not_target_kept x = ap (λ b. if b then [] else at_part code.LeftSide (placed m x)) (target_kept x) ∙ at_part_unless m (is_target rights x) code.LeftSide x

    pub not_variable_kept : (x : Part) → not_a_variable rights (placed m x) ≡ fails m (not_a_variable rights x)
    not_variable_kept x = ap (λ b. if b then [] else at_part code.LeftSide (placed m x)) (variable_kept x) ∙ at_part_unless m (is_variable rights x) code.LeftSide x

    pub step_kept : (i j : ℕ) (x : Part) → step_failing rights (m.token i) (m.token j) (placed m x) ≡ fails m (step_failing rights i j x)
    step_kept i j x =
        both m (not_a_variable rights (placed m x)) (if is_whole rights (sort_of (placed m x)) then [] else fault_at code.Operands (m.token i) (m.token j)) (not_a_variable rights x) (if is_whole rights (sort_of x) then [] else fault_at code.Operands i j)
        (not_variable_kept x)
        (ap (λ s. if is_whole rights s then [] else fault_at code.Operands (m.token i) (m.token j)) (sort_kept m x) ∙ either m (is_whole rights (sort_of x)) [] (fault_at code.Operands i j))

    -- ---- values that are given to variables

    pub results_kept : (xs : List Part) → whole_results rights (every m xs) ≡ whole_results rights xs
    results_kept [] = refl
    results_kept (x ∷ []) = ap (called_results rights) (sort_kept m x)
    results_kept (x ∷ y ∷ ys) = refl

    pub unassigned_kept : (t : Option TypeTree) (x : Part) → unassigned rights t (placed m x) ≡ fails m (unassigned rights t x)
    unassigned_kept (Some t) x = unassignable_kept m rights t x
    unassigned_kept None (typed f i j l ps) =
        let x = typed f i j l ps in
        either_of m (is_nil l.sort) (at_part code.Operands (placed m x)) (undefaulted rights (placed m x)) (at_part code.Operands x) (undefaulted rights x) (at_part_kept m code.Operands x) (undefaulted_kept m rights x)

    all_unassigned_kept : (ts : Wanted) (xs : List Part) → all_unassigned rights ts (every m xs) ≡ fails m (all_unassigned rights ts xs)
    all_unassigned_kept [] xs = refl
    all_unassigned_kept (t ∷ ts) [] = refl
    all_unassigned_kept (t ∷ ts) (x ∷ xs) = both m (unassigned rights t (placed m x)) (all_unassigned rights ts (every m xs)) (unassigned rights t x) (all_unassigned rights ts xs) (unassigned_kept t x) (all_unassigned_kept ts xs)

    result_kept : (x : Part) (t : Option TypeTree) (r : TypeTree) → result_unassigned rights (placed m x) t r ≡ fails m (result_unassigned rights x t r)
    result_kept x None r = refl
    result_kept x (Some t) r = at_part_unless m (is_assignable rights r t) code.Assignable x

    results_unassigned_kept : (x : Part) (ts : Wanted) (rs : List TypeTree) → results_unassigned rights (placed m x) ts rs ≡ fails m (results_unassigned rights x ts rs)
    results_unassigned_kept x [] rs = refl
    results_unassigned_kept x (t ∷ ts) [] = refl
    results_unassigned_kept x (t ∷ ts) (r ∷ rs) =
        both m (result_unassigned rights (placed m x) t r) (results_unassigned rights (placed m x) ts rs) (result_unassigned rights x t r) (results_unassigned rights x ts rs) (result_kept x t r) (results_unassigned_kept x ts rs)

    call_assigned_kept : (ts : Wanted) (xs : List Part) (rs : List TypeTree) → call_assigned rights ts (every m xs) rs ≡ fails m (call_assigned rights ts xs rs)
    call_assigned_kept ts [] rs = refl
    call_assigned_kept ts (x ∷ xs) rs = results_unassigned_kept x ts rs

    assignment_by_kept : (i j : ℕ) (ts : Wanted) (xs : List Part) (o : Option (List TypeTree)) → assignment_by rights (m.token i) (m.token j) ts (every m xs) o ≡ fails m (assignment_by rights i j ts xs o)
    assignment_by_kept i j ts xs (Some rs) =
        either_of m (length ts == length rs) (call_assigned rights ts (every m xs) rs) (fault_at code.Count (m.token i) (m.token j)) (call_assigned rights ts xs rs) (fault_at code.Count i j) (call_assigned_kept ts xs rs) refl
    assignment_by_kept i j ts xs None =
        ap (λ n. if length ts == n then all_unassigned rights ts (every m xs) else fault_at code.Count (m.token i) (m.token j)) (count_kept m xs)
        ∙ either_of m (length ts == length xs) (all_unassigned rights ts (every m xs)) (fault_at code.Count (m.token i) (m.token j)) (all_unassigned rights ts xs) (fault_at code.Count i j) (all_unassigned_kept ts xs) refl

    pub assignment_kept : (i j : ℕ) (ts : Wanted) (xs : List Part) → assignment_failing rights (m.token i) (m.token j) ts (every m xs) ≡ fails m (assignment_failing rights i j ts xs)
    assignment_kept i j ts xs = ap (assignment_by rights (m.token i) (m.token j) ts (every m xs)) (results_kept xs) ∙ assignment_by_kept i j ts xs (whole_results rights xs)

    pub assign_kept : (i j : ℕ) (ts xs : List Part) → assign_failing rights (m.token i) (m.token j) (every m ts) (every m xs) ≡ fails m (assign_failing rights i j ts xs)
    assign_kept i j ts xs =
        both m (each (not_a_target rights) (every m ts)) (assignment_failing rights (m.token i) (m.token j) (map target_type (every m ts)) (every m xs)) (each (not_a_target rights) ts) (assignment_failing rights i j (map target_type ts) xs)
        (each_kept (not_a_target rights) not_target_kept ts)
        (ap (λ us. assignment_failing rights (m.token i) (m.token j) us (every m xs)) (target_types ts) ∙ assignment_kept i j (map target_type ts) xs)

    -- ---- conditions

    pub condition_kept : (x : Option Part) → condition_failing rights (optional m x) ≡ fails m (condition_failing rights x)
    condition_kept None = refl
    condition_kept (Some (typed f i j l ps)) = at_part_unless m (is_truth rights l.sort) code.Operands (typed f i j l ps)

    pub second_condition_kept : (ys : Parts) → second_condition rights (parts m ys) ≡ fails m (second_condition rights ys)
    second_condition_kept [] = refl
    second_condition_kept (a ∷ []) = refl
    second_condition_kept (a ∷ c ∷ ys) = condition_kept c

  -- ---- what parts take

  pub values_take_kept : (ts : Wanted) (xs : List Part) → values_take ts (every m xs) ≡ values_take ts xs
  values_take_kept ts [] = refl
  values_take_kept [] (x ∷ xs) = ap (λ ks. type_or_default None ∷ ks) (values_take_kept [] xs)
  values_take_kept (t ∷ ts) (x ∷ xs) = ap (λ ks. type_or_default t ∷ ks) (values_take_kept ts xs)

  pub assign_takes_kept : (ts xs : List Part) → assign_takes (every m ts) (every m xs) ≡ assign_takes ts xs
  assign_takes_kept ts xs =
      ap (λ n. rest n ++ values_take (map target_type (every m ts)) (every m xs)) (count_kept m ts)
      ∙ ap (λ us. rest (length ts) ++ values_take us (every m xs)) (target_types ts) ∙ ap (λ ks. rest (length ts) ++ ks) (values_take_kept (map target_type ts) xs)

  pub returned_kept : (ts : List TypeTree) (xs : List Part) → returned ts (every m xs) ≡ returned ts xs
  returned_kept ts xs = ap (λ n. if length ts == n then map (λ t. takes (as_type t)) ts else []) (count_kept m xs)
