-- What a name stands for by its type and its value, where these pass.
use Rattle.std.proofs.Common.{ℕ, zero, suc, Bool, true, false, List, [], ◌∷◌, Option, Some, None}
use Rattle.std.specs.Prelude.{slice_get}
use Rattle.go_tree.specs.declared.context.Entity.{Entity}
use Rattle.go_tree.specs.declared.context.Entity.TheVariants as entity
use Rattle.go_types.specs.Trees.{TypeTree, TypeRow}
use Rattle.go_types.specs.Trees as types
use Rattle.go_types.specs.Relations.{Rights}
use Rattle.go_types_relations.specs.Tests.{underlying_of}
use Rattle.go_typed.specs.Trees.{sort_of}
use Rattle.go_typed.specs.Trees as sort
use Rattle.go_exprs_rules.specs.declared.fault.TypeFault.{TypeFault}
use Rattle.go_exprs_rules.specs.Calls.{results_of}
use Rattle.go_exprs_rules.specs.Settling.{Part}
use Rattle.go_exprs_rules.specs.Sorts.{Stands, is_constant, value_type}
use Rattle.go_exprs_rules.specs.TypeNodes.{part_type}
use Rattle.go_stmts_defs.specs.Assigning.{types_in, called_results, unassigned, result_unassigned, constant_failing, constant_in, first_known, variable}
use Rattle.go_package_defs.specs.Declarations.{Specification, is_alone}
use Rattle.go_package_defs.specs.Verdicts.{Assigned, assigned, constant_assigned, result_assigned, value_assigned, shared_value, variable_by, variable_assigned, function_assigned, assigned_as, assigned_if, are_judged, assigned_of}
use Rattle.go_package_laws.specs.Reach.{Within, RowWithin, MaybeWithin, StandsWithin, PartWithin, MaybePart}
use Rattle.go_package_laws.proofs.Public.{underlying_within, branch, sort_within, part_type_within, value_within}
use Rattle.go_heads_types.proofs.Typed.{RightsWithin, agree_on}

module _ (p : ℕ → Bool) where
  -- ---- results of calls

  abbrev AllWithin : List TypeTree → Type 0
  AllWithin [] = Unit {0}
  AllWithin (t ∷ ts) = Within p t × AllWithin ts

  abbrev MaybeAll : Option (List TypeTree) → Type 0
  MaybeAll None = Unit {0}
  MaybeAll (Some ts) = AllWithin ts

  row_within : (ts : TypeRow) → RowWithin p ts → AllWithin (types_in ts)
  row_within types.none w = tt
  row_within (types.more t ts) w = (w.0, row_within ts w.1)

  at_within : (ts : List TypeTree) (n : ℕ) → AllWithin ts → MaybeWithin p (slice_get ts n)
  at_within [] n w = tt
  at_within (t ∷ ts) zero w = w.0
  at_within (t ∷ ts) (suc n) w = at_within ts n w.1

  results_within : (o : Option TypeTree) → MaybeWithin p o → RowWithin p (results_of o)
  results_within (Some (types.function ps rs)) w = w.1
  results_within o w = tt

  -- ---- names

  variable_within : (o : Option TypeTree) → MaybeWithin p o → StandsWithin p (variable o)
  variable_within None w = tt
  variable_within (Some t) w = w

  first_within : (o u : Option TypeTree) → MaybeWithin p o → MaybeWithin p u → MaybeWithin p (first_known o u)
  first_within None u w v = v
  first_within (Some t) u w v = w

  constant_within : (o : Option TypeTree) (x : Stands) → MaybeWithin p o → StandsWithin p x → StandsWithin p (constant_in o x)
  constant_within None x w v = branch (StandsWithin p) (is_constant x) x sort.Unknown v tt
  constant_within (Some t) (sort.Constant u c) w v = w
  constant_within (Some t) (sort.OpenConstant c) w v = w
  constant_within (Some t) x w v = tt

  -- what is assigned stands for types that pass
  abbrev Passes : Assigned → Type 0
  Passes a = StandsWithin p a.stands

  assigned_passes : (x : Stands) (fs : List TypeFault) → StandsWithin p x → Passes (assigned x fs)
  assigned_passes x [] w = w
  assigned_passes x (f ∷ fs) w = tt

  if_passes : (b : Bool) (a : Assigned) → Passes a → Passes (assigned_if b a)
  if_passes true a w = w
  if_passes false a w = tt

  module _ (rights : Rights) (closed : RightsWithin p rights) where
    called_within : (x : Stands) → StandsWithin p x → MaybeAll (called_results rights x)
    called_within (sort.Results t) w = row_within (results_of (underlying_of rights t)) (results_within (underlying_of rights t) (underlying_within p rights rights (agree_on p rights closed) t w))
    called_within x w = tt

    constant_passes : (o : Option TypeTree) (x : Option Part) → MaybeWithin p o → MaybePart p x → Passes (constant_assigned rights o x)
    constant_passes o None w v = tt
    constant_passes o (Some x) w v = assigned_passes (constant_in o (sort_of x)) (constant_failing rights o x) (constant_within o (sort_of x) w (sort_within p x v))

    result_passes : (o : Option TypeTree) (x : Part) (r : Option TypeTree) → MaybeWithin p o → MaybeWithin p r → Passes (result_assigned rights o x r)
    result_passes o x None w v = variable_within o w
    result_passes o x (Some t) w v = assigned_passes (variable (first_known o (Some t))) (result_unassigned rights x o t) (variable_within (first_known o (Some t)) (first_within o (Some t) w v))

    value_passes : (o : Option TypeTree) (x : Part) → MaybeWithin p o → PartWithin p x → Passes (value_assigned rights o x)
    value_passes o x w v =
        assigned_passes (variable (first_known o (value_type (sort_of x)))) (unassigned rights o x)
        (variable_within (first_known o (value_type (sort_of x))) (first_within o (value_type (sort_of x)) w (value_within p (sort_of x) (sort_within p x v))))

    shared_passes : (o : Option TypeTree) (x : Part) (b : Bool) (c : ℕ) → MaybeWithin p o → PartWithin p x → Passes (shared_value rights o x b c)
    shared_passes o x true zero w v = value_passes o x w v
    shared_passes o x true (suc c) w v = variable_within o w
    shared_passes o x false c w v = value_passes o x w v

    by_passes : (o : Option TypeTree) (x : Part) (b : Bool) (c : ℕ) (rs : Option (List TypeTree)) → MaybeWithin p o → PartWithin p x → MaybeAll rs → Passes (variable_by rights o x b c rs)
    by_passes o x b c None w v g = shared_passes o x b c w v
    by_passes o x b c (Some ts) w v g = result_passes o x (slice_get ts c) w (at_within ts c g)

    variable_passes : (o : Option TypeTree) (x : Option Part) (b : Bool) (c : ℕ) → MaybeWithin p o → MaybePart p x → Passes (variable_assigned rights o x b c)
    variable_passes o None b c w v = variable_within o w
    variable_passes o (Some x) b c w v = by_passes o x b c (called_results rights (sort_of x)) w v (called_within (sort_of x) (sort_within p x v))

    function_passes : (o : Option TypeTree) → MaybeWithin p o → Passes (function_assigned o)
    function_passes None w = tt
    function_passes (Some t) w = w

    as_passes : (e : Entity) (d : Specification) (c : ℕ) (o : Option TypeTree) (x : Option Part) → MaybeWithin p o → MaybePart p x → Passes (assigned_as e rights d c o x)
    as_passes entity.Constant d c o x w v = constant_passes o x w v
    as_passes entity.Function d c o x w v = function_passes o w
    as_passes entity.Type d c o x w v = tt
    as_passes e d c o x w v = variable_passes o x (is_alone d) c w v

    pub assigned_within : (d : Specification) (c : ℕ) (fs : List TypeFault) (t x : Option Part) → MaybePart p t → MaybePart p x → Passes (assigned_of rights d c fs t x)
    assigned_within d c fs t x w v = if_passes (are_judged fs t x) (assigned_as d.entity rights d c (part_type t) x) (as_passes d.entity d c (part_type t) x (part_type_within p t w) v)
