-- Values that are given to variables, with variables in them.
use Rattle.std.proofs.Common.{◌≡◌, ◌∙◌, ℕ, suc, Bool, true, false, List, [], ◌∷◌, length, Option, Some, None, refl, sym, ap}
use Rattle.std.specs.Prelude.{◌==◌, if◌then◌else◌}
use Rattle.go_base.specs.declared.fault.FaultCode.TheVariants as code
use Rattle.go_types.specs.Trees.{TypeTree}
use Rattle.go_types.specs.Relations.{Rights}
use Rattle.go_types_relations.specs.Tests.{is_assignable}
use Rattle.go_typed.specs.Trees.{sort_of}
use Rattle.go_typed.specs.Trees as sort
use Rattle.go_exprs_rules.specs.declared.fault.TypeFault.{TypeFault}
use Rattle.go_exprs_rules.specs.declared.family.OpenKind.{OpenKind}
use Rattle.go_exprs_rules.specs.Faults.{fault_at}
use Rattle.go_exprs_rules.specs.Settling.{Part, at_part}
use Rattle.go_exprs_rules.specs.Sorts.{Stands, open_kind}
use Rattle.go_stmts_defs.specs.Assigning.{Wanted, called_results, whole_results, unassigned, all_unassigned, result_unassigned, results_unassigned, call_assigned, assignment_by}
use Rattle.go_exprs_variables.specs.Operands.{Operand}
use Rattle.go_exprs_variables.specs.Stood.{Stood, as_before, in_place, early}
use Rattle.go_exprs_variables.proofs.Public.{both_none, none_of_both, passed, passes, tree_self, unassignable_kept}
use Rattle.go_stmts_variables.specs.Rules.{given_type, AllGiven, none_given, spare_given, next_given, ValuesKept}
use Rattle.go_stmts_variables.proofs.Conditions.{defaulted_kept}

pub counted : (b : Bool) (fs : List TypeFault) (i j : ℕ) → (if b then fs else fault_at code.Count i j) ≡ [] → (b ≡ true) × (fs ≡ [])
counted true fs i j e = (refl, e)
counted false fs i j e = cc

module _ (rights : Rights) where
  -- what is assignable doesn't depend on where it stands
  pub elsewhere : (b : Bool) (x y : Part) → (if b then [] else at_part code.Assignable x) ≡ [] → (if b then [] else at_part code.Assignable y) ≡ []
  elsewhere b x y e = passed b [] code.Assignable y (passes b [] code.Assignable x e).0 refl

  pub unassigned_kept : (t : Option TypeTree) (x y : Part) → Operand rights (given_type t x) x y → unassigned rights t x ≡ [] → unassigned rights t y ≡ []
  unassigned_kept (Some t) x y o e = unassignable_kept rights tree_self t x y o e
  unassigned_kept None x y o e = defaulted_kept rights x y o e

  all_kept : (ts : Wanted) (xs ys : List Part) → AllGiven rights ts xs ys → all_unassigned rights ts xs ≡ [] → all_unassigned rights ts ys ≡ []
  all_kept [] xs ys g e = refl
  all_kept (t ∷ ts) xs ys (none_given us) e = refl
  all_kept (t ∷ ts) xs ys (next_given t' ts' x y xs' ys' o g) e =
      let both = both_none (unassigned rights t x) (all_unassigned rights ts xs') e in
      none_of_both (unassigned rights t y) (all_unassigned rights ts ys') (unassigned_kept t x y o both.0) (all_kept ts xs' ys' g both.1)

  pub length_given : (ts : Wanted) (xs ys : List Part) → AllGiven rights ts xs ys → length ys ≡ length xs
  length_given ts xs ys (none_given us) = refl
  length_given ts xs ys (spare_given x y xs' ys' o g) = ap suc (length_given [] xs' ys' g)
  length_given ts xs ys (next_given t' ts' x y xs' ys' o g) = ap suc (length_given ts' xs' ys' g)

  -- ---- the results of a call

  results_by : (u : Option TypeTree) (a b : Stands) → Stood rights u a b → called_results rights b ≡ called_results rights a
  results_by u a b (as_before v c) = refl
  results_by u a b (in_place v t c) = refl
  results_by u a b (early t c k m n) = sym (untyped c k m)
    where
      untyped : (z : Stands) (k : OpenKind) → open_kind z ≡ Some k → called_results rights z ≡ None
      untyped (sort.Results t) k e = cc
      untyped z k e = refl

  pub whole_kept : (ts : Wanted) (xs ys : List Part) → AllGiven rights ts xs ys → whole_results rights ys ≡ whole_results rights xs
  whole_kept ts xs ys (none_given us) = refl
  whole_kept ts xs ys (spare_given x y xs' ys' o (none_given us)) = results_by (given_type None x) (sort_of x) (sort_of y) o.stands
  whole_kept ts xs ys (spare_given x y xs' ys' o (spare_given z v xs'' ys'' p g)) = refl
  whole_kept ts xs ys (next_given t ts' x y xs' ys' o (spare_given z v xs'' ys'' p g)) = refl
  whole_kept ts xs ys (next_given t ts' x y xs' ys' o (none_given us)) = results_by (given_type t x) (sort_of x) (sort_of y) o.stands
  whole_kept ts xs ys (next_given t ts' x y xs' ys' o (next_given u ts'' z v xs'' ys'' p g)) = refl

  result_elsewhere : (x y : Part) (t : Option TypeTree) (r : TypeTree) → result_unassigned rights x t r ≡ [] → result_unassigned rights y t r ≡ []
  result_elsewhere x y None r e = refl
  result_elsewhere x y (Some t) r e = elsewhere (is_assignable rights r t) x y e

  results_elsewhere : (x y : Part) (ts : Wanted) (rs : List TypeTree) → results_unassigned rights x ts rs ≡ [] → results_unassigned rights y ts rs ≡ []
  results_elsewhere x y [] rs e = refl
  results_elsewhere x y (t ∷ ts) [] e = refl
  results_elsewhere x y (t ∷ ts) (r ∷ rs) e =
      let both = both_none (result_unassigned rights x t r) (results_unassigned rights x ts rs) e in
      none_of_both (result_unassigned rights y t r) (results_unassigned rights y ts rs) (result_elsewhere x y t r both.0) (results_elsewhere x y ts rs both.1)

  call_kept : (ts : Wanted) (xs ys : List Part) (rs : List TypeTree) (us : Wanted) → AllGiven rights us xs ys → call_assigned rights ts xs rs ≡ [] → call_assigned rights ts ys rs ≡ []
  call_kept ts xs ys rs us (none_given vs) e = refl
  call_kept ts xs ys rs us (spare_given x y xs' ys' o g) e = results_elsewhere x y ts rs e
  call_kept ts xs ys rs us (next_given t us' x y xs' ys' o g) e = results_elsewhere x y ts rs e

  by_results : (i j : ℕ) (ts : Wanted) (xs ys : List Part) (rs : Option (List TypeTree)) → AllGiven rights ts xs ys → assignment_by rights i j ts xs rs ≡ [] → assignment_by rights i j ts ys rs ≡ []
  by_results i j ts xs ys (Some rs) g e =
      let c = counted (length ts == length rs) (call_assigned rights ts xs rs) i j e in
      ap (λ b. if b then call_assigned rights ts ys rs else fault_at code.Count i j) c.0 ∙ call_kept ts xs ys rs ts g c.1
  by_results i j ts xs ys None g e =
      let c = counted (length ts == length xs) (all_unassigned rights ts xs) i j e in
      ap (λ b. if b then all_unassigned rights ts ys else fault_at code.Count i j) (ap (λ n. length ts == n) (length_given ts xs ys g) ∙ c.0) ∙ all_kept ts xs ys g c.1

pub values_kept : ValuesKept
values_kept rights i j ts xs ys g e = ap (assignment_by rights i j ts ys) (whole_kept rights ts xs ys g) ∙ by_results rights i j ts xs ys (whole_results rights xs) g e
