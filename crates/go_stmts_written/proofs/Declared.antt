-- Names of the package block: what they stand for where they are judged.
use Rattle.std.proofs.Common.{ℕ, zero, suc, Bool, true, false, List, [], ◌∷◌, Option, Some, None, cond}
use Rattle.std.specs.Prelude.{slice_get}
use Rattle.go_grammar.specs.Trees.{Tree}
use Rattle.go_tree.specs.declared.context.Entity.{Entity}
use Rattle.go_tree.specs.declared.context.Entity.TheVariants as entity
use Rattle.go_types.specs.Trees.{TypeTree}
use Rattle.go_types.specs.Relations.{Rights}
use Rattle.go_typed.specs.Trees.{sort_of}
use Rattle.go_exprs_rules.specs.declared.fault.TypeFault.{TypeFault}
use Rattle.go_exprs_rules.specs.Scopes.{Scope, Hint, value, several}
use Rattle.go_exprs_rules.specs.Settling.{Part}
use Rattle.go_exprs_rules.specs.Sorts.{Stands, value_type}
use Rattle.go_exprs_rules.specs.TypeNodes.{part_type}
use Rattle.go_stmts_defs.specs.Assigning.{called_results, unassigned, result_unassigned, constant_failing, constant_in, first_known, variable}
use Rattle.go_package_defs.specs.Declarations.{Specification, is_alone}
use Rattle.go_package_defs.specs.Verdicts.{type_hint, value_hint, part_in, typed_type, own_value, Assigned, assigned, constant_assigned, result_assigned, value_assigned, shared_value, variable_by, variable_assigned, function_assigned, assigned_as, assigned_if, are_judged, assigned_of, value_state}
use Rattle.go_stmts_written.specs.Named.{StandsIsNamed, RightsAreNamed}
use Rattle.go_stmts_written.proofs.Said.{MaybeNamed, MaybePart, HintNamed, PartIsNamed, MaybeTree, TreesNamed, TypesNamed, MaybeTypes}
use Rattle.go_stmts_written.proofs.Values.{branch, sort_named, value_named, part_type_named}
use Rattle.go_stmts_written.proofs.Around.{ScopeIsNamed}
use Rattle.go_stmts_written.proofs.Assigning.{known_named, variable_named, constant_named, called_named}
use Rattle.go_stmts_written.proofs.Typing.{typing_named}

module _ (texts : ℕ → List ℕ) where
  abbrev Holds : Assigned → Type 0
  Holds a = StandsIsNamed a.stands

  unless_failing : (x : Stands) (fs : List TypeFault) → StandsIsNamed x → Holds (assigned x fs)
  unless_failing x [] w = w
  unless_failing x (f ∷ fs) w = tt

  nth_named : (rs : List TypeTree) (n : ℕ) → TypesNamed rs → MaybeNamed (slice_get rs n)
  nth_named [] n w = tt
  nth_named (r ∷ rs) zero w = w.0
  nth_named (r ∷ rs) (suc n) w = nth_named rs n w.1

  hint_named : (e : Entity) → HintNamed (type_hint e)
  hint_named entity.Function = tt
  hint_named e = tt

  module _ (rights : Rights) (a : RightsAreNamed rights) where
    constant_holds : (t : Option TypeTree) (x : Option Part) → MaybeNamed t → MaybePart texts x → Holds (constant_assigned rights t x)
    constant_holds t None w v = tt
    constant_holds t (Some x) w v = unless_failing (constant_in t (sort_of x)) (constant_failing rights t x) (constant_named texts t (sort_of x) w (sort_named texts x v))

    result_holds : (t : Option TypeTree) (x : Part) (r : Option TypeTree) → MaybeNamed t → MaybeNamed r → Holds (result_assigned rights t x r)
    result_holds t x None w v = variable_named texts t w
    result_holds t x (Some r) w v = unless_failing (variable (first_known t (Some r))) (result_unassigned rights x t r) (variable_named texts (first_known t (Some r)) (known_named texts t (Some r) w v))

    value_holds : (t : Option TypeTree) (x : Part) → MaybeNamed t → PartIsNamed texts x → Holds (value_assigned rights t x)
    value_holds t x w v =
        let u = value_type (sort_of x) in
        unless_failing (variable (first_known t u)) (unassigned rights t x) (variable_named texts (first_known t u) (known_named texts t u w (value_named texts (sort_of x) (sort_named texts x v))))

    shared_holds : (t : Option TypeTree) (x : Part) (alone : Bool) (c : ℕ) → MaybeNamed t → PartIsNamed texts x → Holds (shared_value rights t x alone c)
    shared_holds t x true (suc c) w v = variable_named texts t w
    shared_holds t x true zero w v = value_holds t x w v
    shared_holds t x false c w v = value_holds t x w v

    by_holds : (t : Option TypeTree) (x : Part) (alone : Bool) (c : ℕ) (o : Option (List TypeTree)) → MaybeNamed t → PartIsNamed texts x → MaybeTypes o → Holds (variable_by rights t x alone c o)
    by_holds t x alone c None w v r = shared_holds t x alone c w v
    by_holds t x alone c (Some rs) w v r = result_holds t x (slice_get rs c) w (nth_named rs c r)

    variable_holds : (t : Option TypeTree) (x : Option Part) (alone : Bool) (c : ℕ) → MaybeNamed t → MaybePart texts x → Holds (variable_assigned rights t x alone c)
    variable_holds t None alone c w v = variable_named texts t w
    variable_holds t (Some x) alone c w v = by_holds t x alone c (called_results rights (sort_of x)) w v (called_named texts rights a (sort_of x) (sort_named texts x v))

    function_holds : (t : Option TypeTree) → MaybeNamed t → Holds (function_assigned t)
    function_holds None w = tt
    function_holds (Some t) w = w

    as_holds : (e : Entity) (d : Specification) (c : ℕ) (t : Option TypeTree) (x : Option Part) → MaybeNamed t → MaybePart texts x → Holds (assigned_as e rights d c t x)
    as_holds entity.Constant d c t x w v = constant_holds t x w v
    as_holds entity.Function d c t x w v = function_holds t w
    as_holds entity.Type d c t x w v = tt
    as_holds entity.Variable d c t x w v = variable_holds t x (is_alone d) c w v
    as_holds entity.Parameter d c t x w v = variable_holds t x (is_alone d) c w v

    if_holds : (b : Bool) (x : Assigned) → Holds x → Holds (assigned_if b x)
    if_holds true x w = w
    if_holds false x w = tt

    -- a name over its type and its value
    assigned_named : (d : Specification) (c : ℕ) (fs : List TypeFault) (t x : Option Part) → MaybePart texts t → MaybePart texts x → StandsIsNamed (assigned_of rights d c fs t x).stands
    assigned_named d c fs t x w v =
        if_holds (are_judged fs t x) (assigned_as d.entity rights d c (part_type t) x) (as_holds d.entity d c (part_type t) x (part_type_named texts t w) v)

  value_told : (d : Specification) → HintNamed (value_hint d)
  value_told d = branch (HintNamed) (is_alone d) several value tt tt

  module _ (s : Scope) (a : ScopeIsNamed texts s) where
    pub part_holds : (h : Hint) (o : Option Tree) → MaybeTree texts o → HintNamed h → MaybePart texts (part_in s h o)
    part_holds h None n w = tt
    part_holds h (Some t) n w = typing_named texts s h t a n w

    -- the type of a declaration
    pub type_named : (d : Specification) → MaybeTree texts d.type_tree → MaybePart texts (typed_type s d)
    type_named d n = part_holds (type_hint d.entity) d.type_tree n (hint_named d.entity)

    own_there : (ts : List Tree) (c : ℕ) → TreesNamed texts ts → MaybeTree texts (slice_get ts c)
    own_there [] c n = tt
    own_there (t ∷ ts) zero n = n.0
    own_there (t ∷ ts) (suc c) n = own_there ts c n.1

    own_value_there : (d : Specification) (c : ℕ) → TreesNamed texts d.values → MaybeTree texts (own_value d c)
    own_value_there d c n = own_there d.values (cond (is_alone d) 0 c) n

    -- what a constant, a variable or a function stands for
    pub declared_named : (d : Specification) (c : ℕ) (fs : List TypeFault) → MaybeTree texts d.type_tree → TreesNamed texts d.values → StandsIsNamed (value_state s d c fs).stands
    declared_named d c fs n m =
        assigned_named s.rights a.rights d c fs (typed_type s d) (part_in s (value_hint d) (own_value d c)) (type_named d n)
        (part_holds (value_hint d) (own_value d c) (own_value_there d c m) (value_told d))
