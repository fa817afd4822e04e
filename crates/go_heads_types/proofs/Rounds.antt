-- What is known of the objects of a package after as many rounds names no declared types but those of the package.
use Rattle.std.proofs.Common.{◌≡◌, ◌∙◌, ℕ, zero, suc, Bool, true, false, List, [], ◌∷◌, map, length, Option, Some, refl, sym, ap, subst}
use Rattle.std.specs.Prelude.{if◌then◌else◌, nat_lt}
use Rattle.std.specs.List.{AllByRecursion}
use Rattle.std.proofs.lemmas.List.{length-map}
use Rattle.go_tree.specs.declared.context.Entity.{Entity}
use Rattle.go_tree.specs.declared.context.Entity.TheVariants as entity
use Rattle.go_tree.specs.declared.object.Declared.{Declared}
use Rattle.go_tree.specs.declared.object.Object.{Object}
use Rattle.go_tree.specs.declared.object.Object.TheVariants as object
use Rattle.go_types.specs.Trees.{TypeTree}
use Rattle.go_types_relations.specs.Questions.{entry}
use Rattle.go_exprs_rules.specs.declared.fault.TypeFault.{TypeFault}
use Rattle.go_exprs_rules.specs.Scopes.{Needed, Scope, several, value}
use Rattle.go_exprs_rules.specs.Settling.{Part}
use Rattle.go_package_defs.specs.Answer.{environment_of}
use Rattle.go_package_defs.specs.Bodies.{stands_among}
use Rattle.go_package_defs.specs.Checked.{surroundings_of}
use Rattle.go_package_defs.specs.Declarations.{Specification, is_alone}
use Rattle.go_package_defs.specs.Knowledge.{Outline, State, no_state, state_of, is_type, is_sound, is_told, passes, stands_if, stands_where, rights_among, rights_of, declaring, outline_by, outlines, referent_at, scope_where, free_scope, told_scope}
use Rattle.go_package_defs.specs.Sources.{Package}
use Rattle.go_package_defs.specs.Verdicts.{type_hint, value_hint, part_in, typed_type, type_faults, own_value, own_faults, number_of_type, own_type, right_found, type_state, value_state, state_by, next_states, first_state, first_states, known}
use Rattle.go_package_laws.specs.Reach.{MaybeWithin, StandsWithin, MaybePart, HintWithin, ScopeWithin}
use Rattle.go_package_laws.proofs.Public.{part_type_within}
use Rattle.go_renumbering.specs.Functions.{AreBelow}
use Rattle.go_heads_types.proofs.Assigned.{assigned_within}
use Rattle.go_heads_types.proofs.Entities.{Declares}
use Rattle.go_heads_types.proofs.NumbersBelow.{types_among, rights_many, TypesBelow, types_below}
use Rattle.go_heads_types.proofs.Typed.{RightsWithin, part_within}

-- ---- states whose types pass

module _ (p : ℕ → Bool) where
  record StateWithin (s : State) : Type 0 where
    right : MaybeWithin p s.right
    stands : StandsWithin p s.stands

  abbrev AllWithin : List State → Type 0
  AllWithin ss = AllByRecursion StateWithin ss

  nothing_within : StateWithin no_state
  nothing_within = record { right = tt; stands = tt }

  state_within : (ss : List State) (n : ℕ) → AllWithin ss → StateWithin (state_of ss n)
  state_within [] n h = nothing_within
  state_within (s ∷ ss) zero h = h.0
  state_within (s ∷ ss) (suc n) h = state_within ss n h.1

  if_within : (b : Bool) (s : State) → StateWithin s → StandsWithin p (stands_if b s)
  if_within true s h = h.stands
  if_within false s h = tt

  names_within : (test : State → Bool) (os : List Outline) (ss : List State) → AllWithin ss → (n : Needed) (o : Object) → StandsWithin p (stands_where test os ss n o)
  names_within test os ss h n (object.Package m) = if_within (passes test os ss n m) (state_of ss m) (state_within ss m h)
  names_within test os ss h n o = tt

  rights_within : (ds : List Declared) (ss : List State) → AllWithin ss → RightsWithin p (rights_among ds ss)
  rights_within [] ss h n = tt
  rights_within (d ∷ ds) [] h n = tt
  rights_within (d ∷ ds) (s ∷ ss) h n = by (is_type d.entity) n (rights_within ds ss h.1)
    where
      by : (b : Bool) (n : ℕ) → RightsWithin p (rights_among ds ss) → MaybeWithin p (entry (if b then s.right ∷ rights_among ds ss else rights_among ds ss) n)
      by true zero g = h.0.right
      by true (suc n) g = g n
      by false n g = g n

  objects_within : (ss : List State) → AllWithin ss → (n : Needed) (o : Object) → StandsWithin p (stands_among (map (λ s. s.stands) ss) n o)
  objects_within ss h n (object.Package m) = there ss m h
    where
      there : (ss : List State) (m : ℕ) → AllWithin ss → StandsWithin p (stands_among (map (λ s. s.stands) ss) n (object.Package m))
      there [] m h = tt
      there (s ∷ ss) zero h = h.0.stands
      there (s ∷ ss) (suc m) h = there ss m h.1
  objects_within ss h n o = tt

  -- ---- one object

  type_hint_within : (e : Entity) → HintWithin p (type_hint e)
  type_hint_within entity.Function = tt
  type_hint_within e = tt

  several_or_value : (b : Bool) → HintWithin p (if b then several else value)
  several_or_value true = tt
  several_or_value false = tt

  found_within : (fs : List TypeFault) (t : Option Part) → MaybePart p t → MaybeWithin p (right_found fs t)
  found_within [] t w = part_type_within p t w
  found_within (f ∷ fs) t w = tt

  module _ (q : Package) (os : List Outline) (ss : List State) (h : AllWithin ss) where
    scope_within : (test : State → Bool) (limits : Bool) (d : Specification) → ScopeWithin p (scope_where test limits q os ss d)
    scope_within test limits d = names_within test os ss h

    closed : RightsWithin p (rights_of q ss)
    closed = rights_within q.uses.package_level ss h

    type_within : (t : TypeTree) → MaybeWithin p (Some t) → (d : Specification) → StateWithin (type_state t (told_scope q os ss d) (free_scope q os ss d) d)
    type_within t w d =
        let told : Scope = told_scope q os ss d in
        record {
          right = found_within (type_faults told d) (typed_type told d) (part_within p told closed (scope_within is_told false d) (type_hint d.entity) d.type_tree (type_hint_within d.entity));
          stands = w;
        }

    value_within : (d : Specification) (c : ℕ) (fs : List TypeFault) → StateWithin (value_state (free_scope q os ss d) d c fs)
    value_within d c fs =
        let scope : Scope = free_scope q os ss d in
        let names : ScopeWithin p scope = scope_within is_sound true d in
        record {
          right = tt;
          stands = assigned_within p (rights_of q ss) closed d c fs (typed_type scope d) (part_in scope (value_hint d) (own_value d c))
              (part_within p scope closed names (type_hint d.entity) d.type_tree (type_hint_within d.entity)) (part_within p scope closed names (value_hint d) (own_value d c) (several_or_value (is_alone d)));
        }

    -- a type has its own number
    by_within : (e : Entity) (n : ℕ) (d : Specification) (c : ℕ) → (is_type e ≡ true → p (number_of_type (referent_at q n)) ≡ true) → StateWithin (state_by e q os ss n d c)
    by_within entity.Type n d c f = type_within (own_type q n) (f refl) d
    by_within e n d c f = value_within d c (own_faults (free_scope q os ss d) d c)

  first_within : (q : Package) (n : ℕ) (e : Entity) → (is_type e ≡ true → p (number_of_type (referent_at q n)) ≡ true) → StateWithin (first_state q n e)
  first_within q n entity.Type f = record { right = tt; stands = f refl }
  first_within q n e f = nothing_within

-- ---- rounds

module _ (q : Package) (xs : List Specification) (h : AllByRecursion (Declares xs) q.uses.package_level) where
  abbrev os : List Outline
  os = outlines q xs

  abbrev count : ℕ
  count = types_among q.uses.package_level

  -- below the number of the package's types
  abbrev below : ℕ → Bool
  below = λ i. nat_lt i count

  all_first : (n : ℕ) (zs : List Outline) → TypesBelow q xs count n zs → AllWithin below (first_states q n zs)
  all_first n [] g = tt
  all_first n (z ∷ zs) g = (first_within below q n z.specification.entity g.0, all_first (suc n) zs g.1)

  all_next : (ss : List State) → AllWithin below ss → (n : ℕ) (zs : List Outline) → TypesBelow q xs count n zs → AllWithin below (next_states q os ss n zs)
  all_next ss w n [] g = tt
  all_next ss w n (z ∷ zs) g = (by_within below q os ss w z.specification.entity n z.specification z.column g.0, all_next ss w (suc n) zs g.1)

  all_known : (k : ℕ) → AllWithin below (known q os k)
  all_known zero = all_first 0 os (types_below q xs h)
  all_known (suc k) = all_next (known q os k) (all_known k) 0 os (types_below q xs h)

  -- ---- as many states as objects

  first_many : (n : ℕ) (zs : List Outline) → length (first_states q n zs) ≡ length zs
  first_many n [] = refl
  first_many n (z ∷ zs) = ap suc (first_many (suc n) zs)

  next_many : (ss : List State) (n : ℕ) (zs : List Outline) → length (next_states q os ss n zs) ≡ length zs
  next_many ss n [] = refl
  next_many ss n (z ∷ zs) = ap suc (next_many ss (suc n) zs)

  known_many : (k : ℕ) → length (known q os k) ≡ length os
  known_many zero = first_many 0 os
  known_many (suc k) = next_many (known q os k) 0 os

  states_many : (k : ℕ) → length (known q os k) ≡ length q.uses.package_level
  states_many k = known_many k ∙ length-map q.uses.package_level (λ d. outline_by q d (declaring xs d.file d.name))

  -- ---- what surrounds bodies

  pub known_below : (k : ℕ) → let e = environment_of q (known q os k) in AreBelow (length e.rights) (surroundings_of q.uses e) e.rights
  known_below k =
      let ss : List State = known q os k in
      subst (λ n. AreBelow n (surroundings_of q.uses (environment_of q ss)) (rights_of q ss)) (sym (rights_many q.uses.package_level ss (states_many k)))
      (record { objects = objects_within below ss (all_known k); rights = rights_within below q.uses.package_level ss (all_known k) })
