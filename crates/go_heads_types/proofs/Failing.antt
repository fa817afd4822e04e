-- Whether rules fail at parts that stand elsewhere.
use Rattle.std.proofs.Common.{◌≡◌, ◌∙◌, ℕ, suc, Bool, true, false, List, [], ◌∷◌, ◌++◌, map, Option, Some, None, length, refl, sym, ap}
use Rattle.std.specs.Prelude.{◌==◌, ◌&&◌, if◌then◌else◌, replicate}
use Rattle.go_base.specs.declared.fault.FaultCode.{FaultCode}
use Rattle.go_base.specs.declared.fault.FaultCode.TheVariants as code
use Rattle.go_constants.specs.declared.values.Const.{Const}
use Rattle.go_types.specs.Trees.{TypeTree}
use Rattle.go_types.specs.Relations.{Rights}
use Rattle.go_types_relations.specs.Tests.{underlying_of, is_assignable}
use Rattle.go_typed.specs.Trees.{typed, Typeds, sort_of}
use Rattle.go_typed.specs.Trees as sort
use Rattle.go_exprs_rules.specs.declared.fault.TypeFault.{TypeFault}
use Rattle.go_exprs_rules.specs.declared.family.OpenKind.{OpenKind}
use Rattle.go_exprs_rules.specs.Faults.{fault_at, joined}
use Rattle.go_exprs_rules.specs.Settling.{Part, at_part, unrepresented_constant, unrepresented, all_unrepresented, undefaulted_by, undefaulted, untyped_unassignable, unassignable_by, unassignable}
use Rattle.go_exprs_rules.specs.Sorts.{Stands, is_nil, is_open, open_kind, is_constant, constant_of, represents, default_type, suits, has_nil}
use Rattle.go_exprs_rules.specs.Tables.{no_faults}
use Rattle.go_stmts_defs.specs.Assigning.{Wanted, called_results, whole_results, unassigned, all_unassigned, result_unassigned, results_unassigned, call_assigned, assignment_by, assignment_failing, constant_failing, constants_failing}
use Rattle.go_stmts_defs.specs.Rules.{variables_failing}
use Rattle.go_elsewhere.specs.Elsewhere.{placed, all_placed, fault_placed}

-- rules fail in both, or in neither
abbrev pub Alike : List TypeFault → List TypeFault → Type 0
Alike us xs = no_faults us ≡ no_faults xs

both_none : (us vs : List TypeFault) → no_faults (us ++ vs) ≡ (no_faults us && no_faults vs)
both_none [] vs = refl
both_none (u ∷ us) vs = refl

pub both : (us vs xs ys : List TypeFault) → Alike us xs → Alike vs ys → Alike (us ++ vs) (xs ++ ys)
both us vs xs ys e f = both_none us vs ∙ ap (λ b. b && no_faults vs) e ∙ ap (λ b. no_faults xs && b) f ∙ sym (both_none xs ys)

pub either : (b : Bool) (us vs xs ys : List TypeFault) → Alike us xs → Alike vs ys → Alike (if b then us else vs) (if b then xs else ys)
either true us vs xs ys e f = e
either false us vs xs ys e f = f

fails_none : (m : ℕ → ℕ) (fs : List TypeFault) → Alike (map (fault_placed m) fs) fs
fails_none m [] = refl
fails_none m (f ∷ fs) = refl

pub joined_alike : (m : ℕ → ℕ) (nodes : List (List TypeFault)) → Alike (joined (map (λ (fs : List TypeFault). map (fault_placed m) fs) nodes)) (joined nodes)
joined_alike m [] = refl
joined_alike m (fs ∷ nodes) = both (map (fault_placed m) fs) (joined (map (λ (fs : List TypeFault). map (fault_placed m) fs) nodes)) fs (joined nodes) (fails_none m fs) (joined_alike m nodes)

module _ (m : ℕ → ℕ) where
  pub sort_kept : (x : Part) → sort_of (placed m x) ≡ sort_of x
  sort_kept (typed f i j l ps) = refl

  pub at_alike : (c d : FaultCode) (x : Part) → Alike (at_part c (placed m x)) (at_part d x)
  at_alike c d (typed f i j l ps) = refl

  unless_alike : (b : Bool) (c : FaultCode) (x : Part) → Alike (if b then [] else at_part c (placed m x)) (if b then [] else at_part c x)
  unless_alike b c x = either b [] (at_part c (placed m x)) [] (at_part c x) refl (at_alike c c x)

  module _ (rights : Rights) where
    constant_alike : (t : TypeTree) (i j : ℕ) (o : Option Const) → Alike (unrepresented_constant rights t (m i) (m j) o) (unrepresented_constant rights t i j o)
    constant_alike t i j None = refl
    constant_alike t i j (Some c) = either (represents rights t c) [] (fault_at code.Representable (m i) (m j)) [] (fault_at code.Representable i j) refl refl

    mutual
      unrepresented_alike : (t : TypeTree) (x : Part) → Alike (unrepresented rights t (placed m x)) (unrepresented rights t x)
      unrepresented_alike t (typed f i j l ps) =
          either (is_open l.sort) (if is_constant l.sort then unrepresented_constant rights t (m i) (m j) (constant_of l.sort) else all_unrepresented rights t (all_placed m ps)) []
          (if is_constant l.sort then unrepresented_constant rights t i j (constant_of l.sort) else all_unrepresented rights t ps) []
          (either (is_constant l.sort) (unrepresented_constant rights t (m i) (m j) (constant_of l.sort)) (all_unrepresented rights t (all_placed m ps))
          (unrepresented_constant rights t i j (constant_of l.sort)) (all_unrepresented rights t ps) (constant_alike t i j (constant_of l.sort)) (all_unrepresented_alike t ps))
          refl

      all_unrepresented_alike : (t : TypeTree) (ps : Typeds TypeTree) → Alike (all_unrepresented rights t (all_placed m ps)) (all_unrepresented rights t ps)
      all_unrepresented_alike t sort.none = refl
      all_unrepresented_alike t (sort.more x xs) =
          both (unrepresented rights t (placed m x)) (all_unrepresented rights t (all_placed m xs)) (unrepresented rights t x) (all_unrepresented rights t xs) (unrepresented_alike t x) (all_unrepresented_alike t xs)
      all_unrepresented_alike t (sort.skip xs) = all_unrepresented_alike t xs

    undefaulted_by_alike : (o : Option OpenKind) (x : Part) → Alike (undefaulted_by rights o (placed m x)) (undefaulted_by rights o x)
    undefaulted_by_alike None x = refl
    undefaulted_by_alike (Some k) x = unrepresented_alike (default_type k) x

    undefaulted_alike : (x : Part) → Alike (undefaulted rights (placed m x)) (undefaulted rights x)
    undefaulted_alike (typed f i j l ps) = undefaulted_by_alike (open_kind l.sort) (typed f i j l ps)

    untyped_alike : (t : TypeTree) (o : Option OpenKind) (x : Part) → Alike (untyped_unassignable rights t o (placed m x)) (untyped_unassignable rights t o x)
    untyped_alike t None x = at_alike code.Assignable code.Assignable x
    untyped_alike t (Some k) x =
        either (suits rights k t) (unrepresented rights t (placed m x)) (at_part code.Assignable (placed m x)) (unrepresented rights t x) (at_part code.Assignable x)
        (unrepresented_alike t x) (at_alike code.Assignable code.Assignable x)

    unassignable_by_alike : (t : TypeTree) (s : Stands) (x : Part) → Alike (unassignable_by rights t s (placed m x)) (unassignable_by rights t s x)
    unassignable_by_alike t sort.Unknown x = refl
    unassignable_by_alike t (sort.Value u) x = unless_alike (is_assignable rights u t) code.Assignable x
    unassignable_by_alike t (sort.Constant u c) x = unless_alike (is_assignable rights u t) code.Assignable x
    unassignable_by_alike t sort.Nil x = unless_alike (has_nil (underlying_of rights t)) code.Assignable x
    unassignable_by_alike t s x = untyped_alike t (open_kind s) x

    unassignable_alike : (t : TypeTree) (x : Part) → Alike (unassignable rights t (placed m x)) (unassignable rights t x)
    unassignable_alike t (typed f i j l ps) = unassignable_by_alike t l.sort (typed f i j l ps)

    -- ---- assignments

    pub unassigned_alike : (o : Option TypeTree) (x : Part) → Alike (unassigned rights o (placed m x)) (unassigned rights o x)
    unassigned_alike (Some t) x = unassignable_alike t x
    unassigned_alike None (typed f i j l ps) =
        let x : Part = typed f i j l ps in
        either (is_nil l.sort) (at_part code.Operands (placed m x)) (undefaulted rights (placed m x)) (at_part code.Operands x) (undefaulted rights x) (at_alike code.Operands code.Operands x) (undefaulted_alike x)

    pub constant_failing_alike : (o : Option TypeTree) (x : Part) → Alike (constant_failing rights o (placed m x)) (constant_failing rights o x)
    constant_failing_alike (Some t) (typed f i j l ps) =
        let x : Part = typed f i j l ps in
        either (is_constant l.sort) (unassignable rights t (placed m x)) (at_part code.Operands (placed m x)) (unassignable rights t x) (at_part code.Operands x) (unassignable_alike t x) (at_alike code.Operands code.Operands x)
    constant_failing_alike None (typed f i j l ps) =
        let x : Part = typed f i j l ps in
        either (is_constant l.sort) [] (at_part code.Operands (placed m x)) [] (at_part code.Operands x) refl (at_alike code.Operands code.Operands x)

    pub result_alike : (x : Part) (o : Option TypeTree) (r : TypeTree) → Alike (result_unassigned rights (placed m x) o r) (result_unassigned rights x o r)
    result_alike x None r = refl
    result_alike x (Some t) r = unless_alike (is_assignable rights r t) code.Assignable x

    -- ---- all values

    abbrev every : List Part → List Part
    every xs = map (placed m) xs

    count_kept : (xs : List Part) → length (every xs) ≡ length xs
    count_kept [] = refl
    count_kept (x ∷ xs) = ap suc (count_kept xs)

    pub constants_alike : (o : Option TypeTree) (xs : List Part) → Alike (constants_failing rights o (every xs)) (constants_failing rights o xs)
    constants_alike o [] = refl
    constants_alike o (x ∷ xs) =
        both (constant_failing rights o (placed m x)) (constants_failing rights o (every xs)) (constant_failing rights o x) (constants_failing rights o xs) (constant_failing_alike o x) (constants_alike o xs)

    all_alike : (ts : Wanted) (xs : List Part) → Alike (all_unassigned rights ts (every xs)) (all_unassigned rights ts xs)
    all_alike [] xs = refl
    all_alike (t ∷ ts) [] = refl
    all_alike (t ∷ ts) (x ∷ xs) =
        both (unassigned rights t (placed m x)) (all_unassigned rights ts (every xs)) (unassigned rights t x) (all_unassigned rights ts xs) (unassigned_alike t x) (all_alike ts xs)

    results_alike : (x : Part) (ts : Wanted) (rs : List TypeTree) → Alike (results_unassigned rights (placed m x) ts rs) (results_unassigned rights x ts rs)
    results_alike x [] rs = refl
    results_alike x (t ∷ ts) [] = refl
    results_alike x (t ∷ ts) (r ∷ rs) =
        both (result_unassigned rights (placed m x) t r) (results_unassigned rights (placed m x) ts rs) (result_unassigned rights x t r) (results_unassigned rights x ts rs) (result_alike x t r) (results_alike x ts rs)

    call_alike : (ts : Wanted) (xs : List Part) (rs : List TypeTree) → Alike (call_assigned rights ts (every xs) rs) (call_assigned rights ts xs rs)
    call_alike ts [] rs = refl
    call_alike ts (x ∷ xs) rs = results_alike x ts rs

    module _ (i j k l : ℕ) where
      by_results : (ts : Wanted) (xs : List Part) (o : Option (List TypeTree)) → Alike (assignment_by rights i j ts (every xs) o) (assignment_by rights k l ts xs o)
      by_results ts xs (Some rs) =
          either (length ts == length rs) (call_assigned rights ts (every xs) rs) (fault_at code.Count i j) (call_assigned rights ts xs rs) (fault_at code.Count k l) (call_alike ts xs rs) refl
      by_results ts xs None =
          ap (λ n. no_faults (if length ts == n then all_unassigned rights ts (every xs) else fault_at code.Count i j)) (count_kept xs)
          ∙ either (length ts == length xs) (all_unassigned rights ts (every xs)) (fault_at code.Count i j) (all_unassigned rights ts xs) (fault_at code.Count k l) (all_alike ts xs) refl

      whole_kept : (xs : List Part) → whole_results rights (every xs) ≡ whole_results rights xs
      whole_kept [] = refl
      whole_kept (x ∷ []) = ap (called_results rights) (sort_kept x)
      whole_kept (x ∷ y ∷ xs) = refl

      assignment_alike : (ts : Wanted) (xs : List Part) → Alike (assignment_failing rights i j ts (every xs)) (assignment_failing rights k l ts xs)
      assignment_alike ts xs = ap (λ o. no_faults (assignment_by rights i j ts (every xs) o)) (whole_kept xs) ∙ by_results ts xs (whole_results rights xs)

      pub variables_alike : (n : ℕ) (o : Option TypeTree) (xs : List Part) → Alike (variables_failing rights i j n o (every xs)) (variables_failing rights k l n o xs)
      variables_alike n o [] = refl
      variables_alike n o (x ∷ xs) = assignment_alike (replicate n o) (x ∷ xs)
