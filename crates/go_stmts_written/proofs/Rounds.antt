-- What is known of the objects of a package after as many rounds are named types, where the names of its declarations are spelled so.
use Rattle.std.proofs.Common.{ℕ, zero, suc, Bool, true, false, List, [], ◌∷◌, map, Option, Some, None, refl, subst}
use Rattle.std.specs.Prelude.{if◌then◌else◌}
use Rattle.std.specs.List.{AllByRecursion}
use Rattle.std.proofs.lemmas.Option.{same_Some}
use Rattle.go_tree.specs.declared.context.Entity.{Entity}
use Rattle.go_tree.specs.declared.context.Entity.TheVariants as entity
use Rattle.go_tree.specs.declared.object.Declared.{Declared}
use Rattle.go_tree.specs.declared.object.Object.{Object}
use Rattle.go_tree.specs.declared.object.Object.TheVariants as object
use Rattle.go_types.specs.Trees.{TypeTree}
use Rattle.go_types.specs.Relations.{HasRight}
use Rattle.go_exprs_rules.specs.declared.fault.TypeFault.{TypeFault}
use Rattle.go_exprs_rules.specs.Scopes.{Needed, Scope}
use Rattle.go_exprs_rules.specs.Settling.{Part}
use Rattle.go_package_defs.specs.Answer.{environment_of}
use Rattle.go_package_defs.specs.Bodies.{stands_among}
use Rattle.go_package_defs.specs.Declarations.{Specification}
use Rattle.go_package_defs.specs.Knowledge.{Outline, State, no_state, state_of, is_type, is_sound, is_told, passes, stands_if, stands_where, rights_among, column_of, found_or, declaring, outline_by, outlines, scope_where, free_scope, told_scope}
use Rattle.go_package_defs.specs.Sources.{Package, text_at}
use Rattle.go_package_defs.specs.Verdicts.{typed_type, type_faults, own_faults, own_type, right_found, type_state, value_state, state_by, next_states, first_state, first_states, known}
use Rattle.go_stmts_written.specs.Named.{IsNamed, StandsIsNamed, RightsAreNamed}
use Rattle.go_stmts_written.proofs.Said.{MaybeNamed, MaybePart, MaybeTree, TreesNamed}
use Rattle.go_stmts_written.proofs.Values.{part_type_named}
use Rattle.go_stmts_written.proofs.Around.{ScopeIsNamed}
use Rattle.go_stmts_written.proofs.Declared.{type_named, declared_named}
use Rattle.go_stmts_written.proofs.Specified.{SpecificationIsNamed}

pub record StateNamed (s : State) : Type 0 where
  right : MaybeNamed s.right
  stands : StandsIsNamed s.stands

abbrev AllNamed : List State → Type 0
AllNamed ss = AllByRecursion StateNamed ss

nothing_named : StateNamed no_state
nothing_named = record { right = tt; stands = tt }

state_named : (ss : List State) (n : ℕ) → AllNamed ss → StateNamed (state_of ss n)
state_named [] n h = nothing_named
state_named (s ∷ ss) zero h = h.0
state_named (s ∷ ss) (suc n) h = state_named ss n h.1

if_named : (b : Bool) (s : State) → StateNamed s → StandsIsNamed (stands_if b s)
if_named true s h = h.stands
if_named false s h = tt

names_named : (test : State → Bool) (os : List Outline) (ss : List State) → AllNamed ss → (n : Needed) (o : Object) → StandsIsNamed (stands_where test os ss n o)
names_named test os ss h n (object.Package m) = if_named (passes test os ss n m) (state_of ss m) (state_named ss m h)
names_named test os ss h n o = tt

rights_named : (ds : List Declared) (ss : List State) → AllNamed ss → RightsAreNamed (rights_among ds ss)
rights_named [] ss h n r e = absurd cc
rights_named (d ∷ ds) [] h n r e = absurd cc
rights_named (d ∷ ds) (s ∷ ss) h n r e = by (is_type d.entity) n (rights_named ds ss h.1) e
  where
    by : (b : Bool) (n : ℕ) → RightsAreNamed (rights_among ds ss) → HasRight (if b then s.right ∷ rights_among ds ss else rights_among ds ss) n r → IsNamed r
    by true zero g e = subst MaybeNamed (same_Some s.right (Some r) e) h.0.right
    by true (suc n) g e = g n r e
    by false n g e = g n r e

pub objects_named : (ss : List State) → AllNamed ss → (n : Needed) (o : Object) → StandsIsNamed (stands_among (map (λ s. s.stands) ss) n o)
objects_named ss h n (object.Package m) = there ss m h
  where
    there : (ss : List State) (m : ℕ) → AllNamed ss → StandsIsNamed (stands_among (map (λ s. s.stands) ss) n (object.Package m))
    there [] m h = tt
    there (s ∷ ss) zero h = h.0.stands
    there (s ∷ ss) (suc m) h = there ss m h.1
objects_named ss h n o = tt

-- ---- one object

found_named : (texts : ℕ → List ℕ) (fs : List TypeFault) (t : Option Part) → MaybePart texts t → MaybeNamed (right_found fs t)
found_named texts [] t w = part_type_named texts t w
found_named texts (f ∷ fs) t w = tt

-- what a declaration has, where there is one
pub record OutlineNamed (p : Package) (d : Specification) : Type 0 where
  pub type : MaybeTree (text_at p d.file) d.type_tree
  pub values : TreesNamed (text_at p d.file) d.values

module _ (p : Package) (os : List Outline) (ss : List State) (h : AllNamed ss) where
  scope_named : (test : State → Bool) (limits : Bool) (d : Specification) → ScopeIsNamed (text_at p d.file) (scope_where test limits p os ss d)
  scope_named test limits d = record { same = refl; rights = rights_named p.uses.package_level ss h; objects = names_named test os ss h }

  type_has : (t : TypeTree) → MaybeNamed (Some t) → (d : Specification) → OutlineNamed p d → StateNamed (type_state t (told_scope p os ss d) (free_scope p os ss d) d)
  type_has t w d o =
      let told : Scope = told_scope p os ss d in
      record {
        right = found_named (text_at p d.file) (type_faults told d) (typed_type told d) (type_named (text_at p d.file) told (scope_named is_told false d) d o.type);
        stands = w;
      }

  value_has : (d : Specification) (c : ℕ) (fs : List TypeFault) → OutlineNamed p d → StateNamed (value_state (free_scope p os ss d) d c fs)
  value_has d c fs o = record { right = tt; stands = declared_named (text_at p d.file) (free_scope p os ss d) (scope_named is_sound true d) d c fs o.type o.values }

  by_has : (e : Entity) (n : ℕ) (d : Specification) (c : ℕ) → OutlineNamed p d → StateNamed (state_by e p os ss n d c)
  by_has entity.Type n d c o = type_has (own_type p n) tt d o
  by_has e n d c o = value_has d c (own_faults (free_scope p os ss d) d c) o

first_has : (p : Package) (n : ℕ) (e : Entity) → StateNamed (first_state p n e)
first_has p n entity.Type = record { right = tt; stands = tt }
first_has p n e = nothing_named

-- ---- objects with their declarations

none_has : (p : Package) (n t : ℕ) → OutlineNamed p (declaring [] n t).0
none_has p n t = record { type = tt; values = tt }

module _ (p : Package) where
  abbrev pub Holds : Specification → Type 0
  Holds d = SpecificationIsNamed (text_at p d.file) d

  found_has : (s : Specification) (o : Option ℕ) (x : Specification × ℕ) → Holds s → OutlineNamed p x.0 → OutlineNamed p (found_or s o x).0
  found_has s (Some c) x h w = record { type = h.type; values = h.values }
  found_has s None x h w = w

  declaring_has : (ds : List Specification) (n t : ℕ) → AllByRecursion Holds ds → OutlineNamed p (declaring ds n t).0
  declaring_has [] n t h = none_has p n t
  declaring_has (d ∷ ds) n t h = found_has d (column_of n t d) (declaring ds n t) h.0 (declaring_has ds n t h.1)

  by_outline : (d : Declared) (x : Specification × ℕ) → OutlineNamed p x.0 → OutlineNamed p (outline_by p d x).specification
  by_outline d (s, c) w = w

  outlines_have : (ds : List Specification) (xs : List Declared) → AllByRecursion Holds ds
      → AllByRecursion (λ (o : Outline). OutlineNamed p o.specification) (map (λ d. outline_by p d (declaring ds d.file d.name)) xs)
  outlines_have ds [] h = tt
  outlines_have ds (x ∷ xs) h = (by_outline x (declaring ds x.file x.name) (declaring_has ds x.file x.name h), outlines_have ds xs h)

  -- ---- rounds

  abbrev AllHave : List Outline → Type 0
  AllHave os = AllByRecursion (λ (o : Outline). OutlineNamed p o.specification) os

  all_first : (n : ℕ) (os : List Outline) → AllNamed (first_states p n os)
  all_first n [] = tt
  all_first n (o ∷ os) = (first_has p n o.specification.entity, all_first (suc n) os)

  all_next : (os : List Outline) (ss : List State) → AllNamed ss → (n : ℕ) (zs : List Outline) → AllHave zs → AllNamed (next_states p os ss n zs)
  all_next os ss w n [] g = tt
  all_next os ss w n (z ∷ zs) g = (by_has p os ss w z.specification.entity n z.specification z.column g.0, all_next os ss w (suc n) zs g.1)

  all_known : (os : List Outline) → AllHave os → (k : ℕ) → AllNamed (known p os k)
  all_known os g zero = all_first 0 os
  all_known os g (suc k) = all_next os (known p os k) (all_known os g k) 0 os g

  -- what surrounds bodies is named
  pub record SurroundsNamed (ss : List State) : Type 0 where
    pub rights : RightsAreNamed (environment_of p ss).rights
    pub objects : (n : Needed) (o : Object) → StandsIsNamed (stands_among (environment_of p ss).objects n o)

  pub known_named : (ds : List Specification) → AllByRecursion Holds ds → (k : ℕ) → SurroundsNamed (known p (outlines p ds) k)
  known_named ds h k =
      let w = all_known (outlines p ds) (outlines_have ds p.uses.package_level h) k in
      record { rights = rights_named p.uses.package_level (known p (outlines p ds) k) w; objects = objects_named (known p (outlines p ds) k) w }
