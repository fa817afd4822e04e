-- What a name stands for by its type and its value, where right sides agree that these reach.
use Rattle.std.proofs.Common.{◌≡◌, ℕ, zero, suc, Bool, true, false, List, [], ◌∷◌, Option, Some, None, refl, ap, ◌∙◌}
use Rattle.std.specs.Prelude.{slice_get}
use Rattle.go_tree.specs.declared.context.Entity.{Entity}
use Rattle.go_tree.specs.declared.context.Entity.TheVariants as entity
use Rattle.go_types.specs.Trees.{TypeTree, TypeRow}
use Rattle.go_types.specs.Trees as types
use Rattle.go_types.specs.Relations.{Rights}
use Rattle.go_types_relations.specs.Tests.{underlying_of}
use Rattle.go_typed.specs.Trees.{sort_of}
use Rattle.go_typed.specs.Trees as sort
use Rattle.go_exprs_rules.specs.declared.fault.TypeFault.{TypeFault}
use Rattle.go_exprs_rules.specs.Calls.{results_of}
use Rattle.go_exprs_rules.specs.Settling.{Part}
use Rattle.go_exprs_rules.specs.Sorts.{Stands, value_type}
use Rattle.go_exprs_rules.specs.TypeNodes.{part_type}
use Rattle.go_stmts_defs.specs.Assigning.{types_in, called_results, unassigned, result_unassigned, constant_failing, constant_in, first_known, variable}
use Rattle.go_package_defs.specs.Declarations.{Specification, is_alone}
use Rattle.go_package_defs.specs.Verdicts.{assigned, constant_assigned, result_assigned, value_assigned, shared_value, variable_by, variable_assigned, assigned_as, assigned_if, are_judged, assigned_of}
use Rattle.go_package_laws.specs.Reach.{Within, RowWithin, MaybeWithin, AgreeOn, StandsWithin, PartWithin, MaybePart}
use Rattle.go_package_laws.proofs.Agreeing.{underlying_same, underlying_within, assignable_same}
use Rattle.go_package_laws.proofs.Values.{sort_within, part_type_within, undefaulted_same, unassignable_same}

module _ (p : ℕ → Bool) where
  results_within : (o : Option TypeTree) → MaybeWithin p o → RowWithin p (results_of o)
  results_within (Some (types.function ps rs)) w = w.1
  results_within o w = tt

  abbrev AllWithin : List TypeTree → Type 0
  AllWithin [] = Unit {0}
  AllWithin (t ∷ ts) = Within p t × AllWithin ts

  row_within : (ts : TypeRow) → RowWithin p ts → AllWithin (types_in ts)
  row_within types.none w = tt
  row_within (types.more t ts) w = (w.0, row_within ts w.1)

  at_within : (ts : List TypeTree) (n : ℕ) → AllWithin ts → MaybeWithin p (slice_get ts n)
  at_within [] n w = tt
  at_within (t ∷ ts) zero w = w.0
  at_within (t ∷ ts) (suc n) w = at_within ts n w.1

  abbrev MaybeAll : Option (List TypeTree) → Type 0
  MaybeAll None = Unit {0}
  MaybeAll (Some ts) = AllWithin ts

module _ (p : ℕ → Bool) (old new : Rights) (a : AgreeOn p old new) where
  called_same : (x : Stands) → StandsWithin p x → called_results new x ≡ called_results old x
  called_same (sort.Results t) w = let e = underlying_same p old new a t w in cc
  called_same x w = refl

  called_within : (x : Stands) → StandsWithin p x → MaybeAll p (called_results old x)
  called_within (sort.Results t) w = row_within p (results_of (underlying_of old t)) (results_within p (underlying_of old t) (underlying_within p old new a t w))
  called_within x w = tt

  unassigned_same : (o : Option TypeTree) (x : Part) → MaybeWithin p o → PartWithin p x → unassigned new o x ≡ unassigned old o x
  unassigned_same (Some t) x w h = unassignable_same p old new a t w x h
  unassigned_same None x w h = let e = undefaulted_same p old new a x in cc

  result_same : (x : Part) (o : Option TypeTree) (t : TypeTree) → MaybeWithin p o → Within p t → result_unassigned new x o t ≡ result_unassigned old x o t
  result_same x None t w h = refl
  result_same x (Some u) t w h = let e = assignable_same p old new a t u h w in cc

  constant_failing_same : (o : Option TypeTree) (x : Part) → MaybeWithin p o → PartWithin p x → constant_failing new o x ≡ constant_failing old o x
  constant_failing_same (Some t) x w h = let e = unassignable_same p old new a t w x h in cc
  constant_failing_same None x w h = refl

  constant_same : (o : Option TypeTree) (x : Option Part) → MaybeWithin p o → MaybePart p x → constant_assigned new o x ≡ constant_assigned old o x
  constant_same o None w h = refl
  constant_same o (Some x) w h = ap (assigned (constant_in o (sort_of x))) (constant_failing_same o x w h)

  result_assigned_same : (o : Option TypeTree) (x : Part) (q : Option TypeTree) → MaybeWithin p o → MaybeWithin p q → result_assigned new o x q ≡ result_assigned old o x q
  result_assigned_same o x None w h = refl
  result_assigned_same o x (Some t) w h = ap (assigned (variable (first_known o (Some t)))) (result_same x o t w h)

  value_same : (o : Option TypeTree) (x : Part) → MaybeWithin p o → PartWithin p x → value_assigned new o x ≡ value_assigned old o x
  value_same o x w h = ap (assigned (variable (first_known o (value_type (sort_of x))))) (unassigned_same o x w h)

  shared_same : (o : Option TypeTree) (x : Part) (b : Bool) (c : ℕ) → MaybeWithin p o → PartWithin p x → shared_value new o x b c ≡ shared_value old o x b c
  shared_same o x true zero w h = value_same o x w h
  shared_same o x true (suc c) w h = refl
  shared_same o x false c w h = value_same o x w h

  variable_by_same : (o : Option TypeTree) (x : Part) (b : Bool) (c : ℕ) (rs : Option (List TypeTree)) → MaybeWithin p o → PartWithin p x → MaybeAll p rs → variable_by new o x b c rs ≡ variable_by old o x b c rs
  variable_by_same o x b c None w h v = shared_same o x b c w h
  variable_by_same o x b c (Some ts) w h v = result_assigned_same o x (slice_get ts c) w (at_within p ts c v)

  variable_same : (o : Option TypeTree) (x : Option Part) (b : Bool) (c : ℕ) → MaybeWithin p o → MaybePart p x → variable_assigned new o x b c ≡ variable_assigned old o x b c
  variable_same o None b c w h = refl
  variable_same o (Some x) b c w h =
      ap (variable_by new o x b c) (called_same (sort_of x) (sort_within p x h))
      ∙ variable_by_same o x b c (called_results old (sort_of x)) w h (called_within (sort_of x) (sort_within p x h))

  assigned_as_same : (e : Entity) (d : Specification) (c : ℕ) (o : Option TypeTree) (x : Option Part) → MaybeWithin p o → MaybePart p x → assigned_as e new d c o x ≡ assigned_as e old d c o x
  assigned_as_same entity.Constant d c o x w h = constant_same o x w h
  assigned_as_same entity.Function d c o x w h = refl
  assigned_as_same entity.Type d c o x w h = refl
  assigned_as_same e d c o x w h = variable_same o x (is_alone d) c w h

  pub assigned_same : (d : Specification) (c : ℕ) (fs : List TypeFault) (t x : Option Part) → MaybePart p t → MaybePart p x → assigned_of new d c fs t x ≡ assigned_of old d c fs t x
  assigned_same d c fs t x w h = ap (assigned_if (are_judged fs t x)) (assigned_as_same d.entity d c (part_type t) x (part_type_within p t w) h)
