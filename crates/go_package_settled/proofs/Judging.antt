-- What a name is judged to stand for reaches what its type and its value do.
use Rattle.std.proofs.Common.{ℕ, zero, suc, Bool, true, false, List, [], ◌∷◌, Option, Some, None}
use Rattle.std.specs.Prelude.{slice_get}
use Rattle.go_tree.specs.declared.context.Entity.{Entity}
use Rattle.go_tree.specs.declared.context.Entity.TheVariants as entity
use Rattle.go_types.specs.Trees.{TypeTree, TypeRow}
use Rattle.go_types.specs.Trees as types
use Rattle.go_types.specs.Relations.{Rights}
use Rattle.go_types_relations.specs.Tests.{underlying_of}
use Rattle.go_typed.specs.Trees.{sort_of}
use Rattle.go_typed.specs.Trees as sort
use Rattle.go_exprs_rules.specs.declared.fault.TypeFault.{TypeFault}
use Rattle.go_exprs_rules.specs.Calls.{results_of}
use Rattle.go_exprs_rules.specs.Scopes.{value, several}
use Rattle.go_exprs_rules.specs.Settling.{Part}
use Rattle.go_exprs_rules.specs.Sorts.{Stands, value_type, is_constant}
use Rattle.go_exprs_rules.specs.TypeNodes.{part_type}
use Rattle.go_stmts_defs.specs.Assigning.{types_in, called_results, unassigned, result_unassigned, constant_failing, constant_in, first_known, variable}
use Rattle.go_package_defs.specs.Declarations.{Specification, is_alone}
use Rattle.go_package_defs.specs.Verdicts.{type_hint, value_hint, right_found}
use Rattle.go_package_defs.specs.Verdicts.{Assigned, assigned, constant_assigned, result_assigned, value_assigned, shared_value, variable_by, variable_assigned, function_assigned, assigned_as, assigned_if, are_judged, assigned_of}
use Rattle.go_package_laws.specs.Reach.{Within, RowWithin, MaybeWithin, AgreeOn, StandsWithin, PartWithin, MaybePart, HintWithin}
use Rattle.go_package_laws.proofs.Public.{branch, part_type_within, sort_within, value_within, underlying_within}

module _ (p : ℕ → Bool) where
  abbrev Holds : Assigned → Type 0
  Holds a = StandsWithin p a.stands

  unless_failing : (x : Stands) (fs : List TypeFault) → StandsWithin p x → Holds (assigned x fs)
  unless_failing x [] w = w
  unless_failing x (f ∷ fs) w = tt

  known_within : (t u : Option TypeTree) → MaybeWithin p t → MaybeWithin p u → MaybeWithin p (first_known t u)
  known_within (Some t) u w v = w
  known_within None u w v = v

  variable_within : (t : Option TypeTree) → MaybeWithin p t → StandsWithin p (variable t)
  variable_within (Some t) w = w
  variable_within None w = tt

  constant_within : (t : Option TypeTree) (x : Stands) → MaybeWithin p t → StandsWithin p x → StandsWithin p (constant_in t x)
  constant_within None x w v = branch (StandsWithin p) (is_constant x) x sort.Unknown v tt
  constant_within (Some t) (sort.Constant u c) w v = w
  constant_within (Some t) (sort.OpenConstant c) w v = w
  constant_within (Some t) x w v = tt

  results_within : (o : Option TypeTree) → MaybeWithin p o → RowWithin p (results_of o)
  results_within (Some (types.function ps rs)) w = w.1
  results_within o w = tt

  abbrev AllWithin : List TypeTree → Type 0
  AllWithin [] = Unit {0}
  AllWithin (t ∷ ts) = Within p t × AllWithin ts

  abbrev MaybeAll : Option (List TypeTree) → Type 0
  MaybeAll None = Unit {0}
  MaybeAll (Some ts) = AllWithin ts

  row_within : (ts : TypeRow) → RowWithin p ts → AllWithin (types_in ts)
  row_within types.none w = tt
  row_within (types.more t ts) w = (w.0, row_within ts w.1)

  nth_within : (ts : List TypeTree) (n : ℕ) → AllWithin ts → MaybeWithin p (slice_get ts n)
  nth_within [] n w = tt
  nth_within (t ∷ ts) zero w = w.0
  nth_within (t ∷ ts) (suc n) w = nth_within ts n w.1

  pub type_told : (e : Entity) → HintWithin p (type_hint e)
  type_told entity.Function = tt
  type_told e = tt

  pub value_told : (d : Specification) → HintWithin p (value_hint d)
  value_told d = branch (HintWithin p) (is_alone d) several value tt tt

  pub right_within : (fs : List TypeFault) (t : Option Part) → MaybePart p t → MaybeWithin p (right_found fs t)
  right_within [] t w = part_type_within p t w
  right_within (f ∷ fs) t w = tt

  module _ (rights : Rights) (a : AgreeOn p rights rights) where
    called_within : (x : Stands) → StandsWithin p x → MaybeAll (called_results rights x)
    called_within (sort.Results t) w = row_within (results_of (underlying_of rights t)) (results_within (underlying_of rights t) (underlying_within p rights rights a t w))
    called_within x w = tt

    constant_holds : (t : Option TypeTree) (x : Option Part) → MaybeWithin p t → MaybePart p x → Holds (constant_assigned rights t x)
    constant_holds t None w v = tt
    constant_holds t (Some x) w v = unless_failing (constant_in t (sort_of x)) (constant_failing rights t x) (constant_within t (sort_of x) w (sort_within p x v))

    result_holds : (t : Option TypeTree) (x : Part) (r : Option TypeTree) → MaybeWithin p t → MaybeWithin p r → Holds (result_assigned rights t x r)
    result_holds t x None w v = variable_within t w
    result_holds t x (Some r) w v = unless_failing (variable (first_known t (Some r))) (result_unassigned rights x t r) (variable_within (first_known t (Some r)) (known_within t (Some r) w v))

    value_holds : (t : Option TypeTree) (x : Part) → MaybeWithin p t → PartWithin p x → Holds (value_assigned rights t x)
    value_holds t x w v =
        let u = value_type (sort_of x) in
        unless_failing (variable (first_known t u)) (unassigned rights t x) (variable_within (first_known t u) (known_within t u w (value_within p (sort_of x) (sort_within p x v))))

    shared_holds : (t : Option TypeTree) (x : Part) (alone : Bool) (c : ℕ) → MaybeWithin p t → PartWithin p x → Holds (shared_value rights t x alone c)
    shared_holds t x true (suc c) w v = variable_within t w
    shared_holds t x true zero w v = value_holds t x w v
    shared_holds t x false c w v = value_holds t x w v

    by_holds : (t : Option TypeTree) (x : Part) (alone : Bool) (c : ℕ) (o : Option (List TypeTree)) → MaybeWithin p t → PartWithin p x → MaybeAll o → Holds (variable_by rights t x alone c o)
    by_holds t x alone c None w v r = shared_holds t x alone c w v
    by_holds t x alone c (Some rs) w v r = result_holds t x (slice_get rs c) w (nth_within rs c r)

    variable_holds : (t : Option TypeTree) (x : Option Part) (alone : Bool) (c : ℕ) → MaybeWithin p t → MaybePart p x → Holds (variable_assigned rights t x alone c)
    variable_holds t None alone c w v = variable_within t w
    variable_holds t (Some x) alone c w v = by_holds t x alone c (called_results rights (sort_of x)) w v (called_within (sort_of x) (sort_within p x v))

    function_holds : (t : Option TypeTree) → MaybeWithin p t → Holds (function_assigned t)
    function_holds None w = tt
    function_holds (Some t) w = w

    as_holds : (e : Entity) (d : Specification) (c : ℕ) (t : Option TypeTree) (x : Option Part) → MaybeWithin p t → MaybePart p x → Holds (assigned_as e rights d c t x)
    as_holds entity.Constant d c t x w v = constant_holds t x w v
    as_holds entity.Function d c t x w v = function_holds t w
    as_holds entity.Type d c t x w v = tt
    as_holds entity.Variable d c t x w v = variable_holds t x (is_alone d) c w v
    as_holds entity.Parameter d c t x w v = variable_holds t x (is_alone d) c w v

    if_holds : (b : Bool) (x : Assigned) → Holds x → Holds (assigned_if b x)
    if_holds true x w = w
    if_holds false x w = tt

    -- a name over its type and its value
    pub assigned_within : (d : Specification) (c : ℕ) (fs : List TypeFault) (t x : Option Part) → MaybePart p t → MaybePart p x → StandsWithin p (assigned_of rights d c fs t x).stands
    assigned_within d c fs t x w v =
        if_holds (are_judged fs t x) (assigned_as d.entity rights d c (part_type t) x) (as_holds d.entity d c (part_type t) x (part_type_within p t w) v)
