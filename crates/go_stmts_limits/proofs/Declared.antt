-- Names of the package block: what they stand for where they are judged.
use Rattle.std.proofs.Common.{ℕ, zero, suc, Bool, true, false, List, [], ◌∷◌, Option, Some, None}
use Rattle.std.specs.Prelude.{slice_get}
use Rattle.go_grammar.specs.Trees.{Tree}
use Rattle.go_tree.specs.declared.context.Entity.{Entity}
use Rattle.go_tree.specs.declared.context.Entity.TheVariants as entity
use Rattle.go_types.specs.Trees.{TypeTree}
use Rattle.go_types.specs.Relations.{Rights}
use Rattle.go_typed.specs.Trees.{sort_of}
use Rattle.go_exprs_rules.specs.declared.fault.TypeFault.{TypeFault}
use Rattle.go_exprs_rules.specs.Scopes.{Scope, Hint, value, several}
use Rattle.go_exprs_rules.specs.Settling.{Part}
use Rattle.go_exprs_rules.specs.Sorts.{Stands, value_type}
use Rattle.go_exprs_rules.specs.TypeNodes.{part_type}
use Rattle.go_stmts_defs.specs.Assigning.{called_results, unassigned, result_unassigned, constant_failing, constant_in, first_known, variable}
use Rattle.go_package_defs.specs.Declarations.{Specification, is_alone}
use Rattle.go_package_defs.specs.Verdicts.{type_hint, value_hint, part_in, typed_type, own_value, Assigned, assigned, constant_assigned, result_assigned, value_assigned, shared_value, variable_by, variable_assigned, function_assigned, assigned_as, assigned_if, are_judged, assigned_of, value_state}
use Rattle.go_stmts_limits.specs.Limits.{StandsIsWithin, PartIsWithin, RightsAreWithin}
use Rattle.go_stmts_limits.proofs.Within.{MaybeWithin, MaybePart, HintWithin}
use Rattle.go_stmts_limits.proofs.Values.{branch, sort_within, value_within, part_type_within}
use Rattle.go_stmts_limits.proofs.Arrays.{JudgesWithin}
use Rattle.go_stmts_limits.proofs.Assigning.{TypesWithin, MaybeTypes, known_within, variable_within, constant_within, called_within}
use Rattle.go_stmts_limits.proofs.Typing.{typing_within}

module _ (limit : Scope) where
  abbrev Holds : Assigned → Type 0
  Holds a = StandsIsWithin limit a.stands

  unless_failing : (x : Stands) (fs : List TypeFault) → StandsIsWithin limit x → Holds (assigned x fs)
  unless_failing x [] w = w
  unless_failing x (f ∷ fs) w = tt

  nth_within : (rs : List TypeTree) (n : ℕ) → TypesWithin limit rs → MaybeWithin limit (slice_get rs n)
  nth_within [] n w = tt
  nth_within (r ∷ rs) zero w = w.0
  nth_within (r ∷ rs) (suc n) w = nth_within rs n w.1

  pub hint_within : (e : Entity) → HintWithin limit (type_hint e)
  hint_within entity.Function = tt
  hint_within e = tt

  module _ (rights : Rights) (a : RightsAreWithin limit rights) where
    constant_holds : (t : Option TypeTree) (x : Option Part) → MaybeWithin limit t → MaybePart limit x → Holds (constant_assigned rights t x)
    constant_holds t None w v = tt
    constant_holds t (Some x) w v = unless_failing (constant_in t (sort_of x)) (constant_failing rights t x) (constant_within limit t (sort_of x) w (sort_within limit x v))

    result_holds : (t : Option TypeTree) (x : Part) (r : Option TypeTree) → MaybeWithin limit t → MaybeWithin limit r → Holds (result_assigned rights t x r)
    result_holds t x None w v = variable_within limit t w
    result_holds t x (Some r) w v = unless_failing (variable (first_known t (Some r))) (result_unassigned rights x t r) (variable_within limit (first_known t (Some r)) (known_within limit t (Some r) w v))

    value_holds : (t : Option TypeTree) (x : Part) → MaybeWithin limit t → PartIsWithin limit x → Holds (value_assigned rights t x)
    value_holds t x w v =
        let u = value_type (sort_of x) in
        unless_failing (variable (first_known t u)) (unassigned rights t x) (variable_within limit (first_known t u) (known_within limit t u w (value_within limit (sort_of x) (sort_within limit x v))))

    shared_holds : (t : Option TypeTree) (x : Part) (alone : Bool) (c : ℕ) → MaybeWithin limit t → PartIsWithin limit x → Holds (shared_value rights t x alone c)
    shared_holds t x true (suc c) w v = variable_within limit t w
    shared_holds t x true zero w v = value_holds t x w v
    shared_holds t x false c w v = value_holds t x w v

    by_holds : (t : Option TypeTree) (x : Part) (alone : Bool) (c : ℕ) (o : Option (List TypeTree)) → MaybeWithin limit t → PartIsWithin limit x → MaybeTypes limit o → Holds (variable_by rights t x alone c o)
    by_holds t x alone c None w v r = shared_holds t x alone c w v
    by_holds t x alone c (Some rs) w v r = result_holds t x (slice_get rs c) w (nth_within rs c r)

    variable_holds : (t : Option TypeTree) (x : Option Part) (alone : Bool) (c : ℕ) → MaybeWithin limit t → MaybePart limit x → Holds (variable_assigned rights t x alone c)
    variable_holds t None alone c w v = variable_within limit t w
    variable_holds t (Some x) alone c w v = by_holds t x alone c (called_results rights (sort_of x)) w v (called_within limit rights a (sort_of x) (sort_within limit x v))

    function_holds : (t : Option TypeTree) → MaybeWithin limit t → Holds (function_assigned t)
    function_holds None w = tt
    function_holds (Some t) w = w

    as_holds : (e : Entity) (d : Specification) (c : ℕ) (t : Option TypeTree) (x : Option Part) → MaybeWithin limit t → MaybePart limit x → Holds (assigned_as e rights d c t x)
    as_holds entity.Constant d c t x w v = constant_holds t x w v
    as_holds entity.Function d c t x w v = function_holds t w
    as_holds entity.Type d c t x w v = tt
    as_holds entity.Variable d c t x w v = variable_holds t x (is_alone d) c w v
    as_holds entity.Parameter d c t x w v = variable_holds t x (is_alone d) c w v

    if_holds : (b : Bool) (x : Assigned) → Holds x → Holds (assigned_if b x)
    if_holds true x w = w
    if_holds false x w = tt

    -- a name over its type and its value
    pub assigned_within : (d : Specification) (c : ℕ) (fs : List TypeFault) (t x : Option Part) → MaybePart limit t → MaybePart limit x → StandsIsWithin limit (assigned_of rights d c fs t x).stands
    assigned_within d c fs t x w v =
        if_holds (are_judged fs t x) (assigned_as d.entity rights d c (part_type t) x) (as_holds d.entity d c (part_type t) x (part_type_within limit t w) v)

  pub value_told : (d : Specification) → HintWithin limit (value_hint d)
  value_told d = branch (HintWithin limit) (is_alone d) several value tt tt

  module _ (s : Scope) (a : JudgesWithin limit s) where
    part_holds : (h : Hint) (o : Option Tree) → HintWithin limit h → MaybePart limit (part_in s h o)
    part_holds h None w = tt
    part_holds h (Some t) w = typing_within limit s h t a w

    -- the type of a declaration
    pub type_within : (d : Specification) → MaybeWithin limit (part_type (typed_type s d))
    type_within d = part_type_within limit (typed_type s d) (part_holds (type_hint d.entity) d.type_tree (hint_within d.entity))

    -- what a constant, a variable or a function stands for
    pub declared_within : (d : Specification) (c : ℕ) (fs : List TypeFault) → StandsIsWithin limit (value_state s d c fs).stands
    declared_within d c fs =
        assigned_within s.rights a.rights d c fs (typed_type s d) (part_in s (value_hint d) (own_value d c)) (part_holds (type_hint d.entity) d.type_tree (hint_within d.entity))
        (part_holds (value_hint d) (own_value d c) (value_told d))
