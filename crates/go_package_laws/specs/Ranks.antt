-- States of the objects of a package that are found one behind the other.
use Rattle.std.specs.Prelude.{◌≡◌, ℕ, zero, suc, ◌<◌, ◌≤◌, Bool, true, false, nat_le, nat_lt, List, [], ◌∷◌, length, Option, Some, None, slice_get}
use Rattle.std.specs.List.{AllByRecursion}
use Rattle.go_grammar.specs.Trees.{Tree}
use Rattle.go_tree.specs.declared.object.Declared.{Declared}
use Rattle.go_tree.specs.declared.object.Object.{Object}
use Rattle.go_tree.specs.declared.object.Object.TheVariants as object
use Rattle.go_tree.specs.Needs.{needs}
use Rattle.go_tree.specs.Needs as tree
use Rattle.go_tree.specs.Uses.{object_of}
use Rattle.go_types_relations.specs.Questions.{entry}
use Rattle.go_exprs_rules.specs.Scopes.{Needed, in_full, loosely, type_place}
use Rattle.go_package_defs.specs.Declarations.{Specification}
use Rattle.go_package_defs.specs.Knowledge.{Outline, State, state_of, is_type, is_sound, is_told, needs_of, stands_where, rights_of, free_scope, told_scope, following}
use Rattle.go_package_defs.specs.Sources.{Package, number_at}
use Rattle.go_package_defs.specs.Verdicts.{own_type, own_value, own_faults, value_state, type_state}
use Rattle.go_package_laws.specs.Names.{Ways, EachName, EachNeed, ObjectWithin}
use Rattle.go_package_laws.specs.Reach.{MaybeWithin, Standing}

-- After so many rounds it is known for good of an object what it stands for, and its right side if it is a type, and all that is found of
-- it; and of a declared type, by its number, all right sides that it reaches.
pub record Ranks : Type 0 where
  pub stand : ℕ → ℕ
  pub told : ℕ → ℕ
  pub own : ℕ → ℕ
  pub reach : ℕ → ℕ

-- the types that are known before the round k with all that they reach
abbrev pub reached : Ranks → ℕ → ℕ → Bool
reached ranks k t = nat_lt (ranks.reach t) k

abbrev pub AllBefore : (ℕ → ℕ) → ℕ → List ℕ → Type 0
AllBefore f k [] = Unit {0}
AllBefore f k (n ∷ ns) = (f n < k) × AllBefore f k ns

-- An object that is needed so, with all that it needs in turn, is known before the round k: f tells when with all, g what it stands for.
abbrev pub NeedBefore : List Outline → (ℕ → ℕ) → (ℕ → ℕ) → ℕ → Needed → Option Object → Type 0
NeedBefore os f g k loosely (Some (object.Package m)) = g m < k
NeedBefore os f g k n (Some (object.Package m)) = AllBefore f k (m ∷ needs_of n (slice_get os m))
NeedBefore os f g k n o = Unit {0}

-- and it stands for types alone that are known with all that they reach
abbrev pub ReachedBefore : List Outline → Ranks → (ℕ → ℕ) → ℕ → Standing → Needed → Option Object → Type 0
ReachedBefore os ranks f k stand n o = NeedBefore os f ranks.stand k n o × ObjectWithin (reached ranks k) stand n o

module _ (p : Package) (os : List Outline) (known : List State) (ranks : Ranks) where
  -- the names of an expression of the declaration d
  abbrev pub NamesBefore : ℕ → Specification → Option Tree → Type 0
  NamesBefore k d None = Unit {0}
  NamesBefore k d (Some t) = EachName (λ i. ReachedBefore os ranks ranks.own k (stands_where is_sound os known) in_full (object_of p.uses d.file i)) t

  -- the names of a type, where no limit is judged
  abbrev pub told_ways : ℕ → Specification → Ways
  told_ways k d = record {
    named = λ n i. NeedBefore os ranks.told ranks.stand k n (object_of p.uses d.file i);
    counted = λ i. ReachedBefore os ranks ranks.told k (stands_where is_told os known) in_full (object_of p.uses d.file i);
    anywhere = λ i. ⊥;
  }

  -- and where limits are
  abbrev pub own_ways : ℕ → Specification → Ways
  own_ways k d = record {
    named = λ n i. ReachedBefore os ranks ranks.own k (stands_where is_sound os known) n (object_of p.uses d.file i);
    counted = λ i. ReachedBefore os ranks ranks.own k (stands_where is_sound os known) in_full (object_of p.uses d.file i);
    anywhere = λ i. ⊥;
  }

  abbrev pub NeedsBefore : Ways → Option Tree → Type 0
  NeedsBefore w None = Unit {0}
  NeedsBefore w (Some t) = EachNeed w type_place t

  -- A constant, a variable or a function is what it is judged to be by what is known, and its names are known before it.
  pub record IsFound (n : ℕ) (d : Specification) (c : ℕ) : Type 0 where
    pub is : state_of known n ≡ value_state (free_scope p os known d) d c (own_faults (free_scope p os known d) d c)
    pub later : 0 < ranks.own n
    pub stands : ranks.own n ≤ ranks.stand n
    pub right : ranks.own n ≤ ranks.told n
    pub of : NamesBefore (ranks.own n) d d.type_tree
    pub value : NamesBefore (ranks.own n) d (own_value d c)

  -- A type likewise. Its right side is known before the rules are judged that fail in it.
  pub record IsFoundType (n : ℕ) (d : Specification) : Type 0 where
    pub is : state_of known n ≡ type_state (own_type p n) (told_scope p os known d) (free_scope p os known d) d
    pub later : 0 < ranks.told n
    pub first : ranks.stand n ≤ ranks.told n
    pub right : ranks.told n ≤ ranks.own n
    pub of : NeedsBefore (told_ways (ranks.told n) d) d.type_tree
    pub limits : NeedsBefore (own_ways (ranks.own n) d) d.type_tree

  abbrev pub IsFoundAs : ℕ → Outline → Bool → Type 0
  IsFoundAs n o true = IsFoundType n o.specification
  IsFoundAs n o false = IsFound n o.specification o.column

abbrev pub number_or : Bool → ℕ → (ℕ → Option ℕ) → Option ℕ
number_or true zero f = Some 0
number_or true (suc t) f = following (f t)
number_or false t f = following (f t)

-- the number of the object that is the declared type of this number
abbrev pub type_object : List Declared → ℕ → Option ℕ
type_object [] t = None
type_object (d ∷ ds) t = number_or (is_type d.entity) t (λ u. type_object ds u)

-- Each object is found by those that it needs, which are known before it; and a type is known with all that it reaches where its right
-- side is, and those of the types in it.
pub record AreFound (p : Package) (os : List Outline) (known : List State) (ranks : Ranks) : Type 0 where
  pub as_many : length known ≡ length os
  pub declared : length p.uses.package_level ≡ length os
  pub each : (n : ℕ) (o : Outline) → slice_get os n ≡ Some o → IsFoundAs p os known ranks n o (is_type o.specification.entity)
  pub reaches : (t n : ℕ) → type_object p.uses.package_level t ≡ Some n → ranks.told n ≤ ranks.reach t
  pub closed : (t : ℕ) → MaybeWithin (λ u. nat_le (ranks.reach u) (ranks.reach t)) (entry (rights_of p known) t)

-- no rank is above k
pub record AreAtMost (ranks : Ranks) (k : ℕ) : Type 0 where
  pub stand : (n : ℕ) → ranks.stand n ≤ k
  pub told : (n : ℕ) → ranks.told n ≤ k
  pub own : (n : ℕ) → ranks.own n ≤ k

-- ---- what is needed through others

-- What a declaration needs at once stands no higher by g.
abbrev pub Falls : Package → (tree.Needed → ℕ) → Type 0
Falls p g = (x : tree.Needed) → AllByRecursion (λ y. g y ≤ g x) (needs p.asked x)

-- An object has no greater rank by f than its declaration stands, in whichever way this is needed.
abbrev pub IsBound : Package → (ℕ → ℕ) → (tree.Needed → ℕ) → Type 0
IsBound p f g = (x : tree.Needed) (n : ℕ) → number_at p x.it.file x.it.it.name ≡ Some n → f n ≤ g x
