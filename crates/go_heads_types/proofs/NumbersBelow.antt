-- The numbers of the package's declared types.
use Rattle.std.proofs.Common.{◌≡◌, ◌∙◌, ℕ, zero, suc, ◌+◌, ◌<◌, Bool, true, false, List, [], ◌∷◌, map, length, Some, refl, sym, ap, subst, arith}
use Rattle.std.specs.Prelude.{if◌then◌else◌, nat_lt, slice_get}
use Rattle.std.specs.List.{AllByRecursion}
use Rattle.std.proofs.lemmas.Bool.{lt-ltb}
use Rattle.std.proofs.lemmas.Option.{same_Some}
use Rattle.go_tree.specs.declared.context.Entity.{Entity}
use Rattle.go_tree.specs.declared.context.Entity.TheVariants as entity
use Rattle.go_tree.specs.declared.object.Declared.{Declared}
use Rattle.go_typed.specs.Packages.{Counts, no_counts, counted, referent_of, referents_from}
use Rattle.go_scopes_events.proofs.Public.{true_false}
use Rattle.go_package_defs.specs.Bodies.{count_types, which_types}
use Rattle.go_package_defs.specs.Declarations.{Specification}
use Rattle.go_package_defs.specs.Knowledge.{Outline, State, is_type, rights_among, declaring, outline_by, outlines, referent_there, referent_at}
use Rattle.go_package_defs.specs.Sources.{Package}
use Rattle.go_package_defs.specs.Verdicts.{number_of_type}
use Rattle.go_heads_types.proofs.Entities.{Declares}

-- how many of them are types
abbrev pub types_among : List Declared → ℕ
types_among ds = count_types (which_types ds)

-- each has a right side
pub rights_many : (ds : List Declared) (ss : List State) → length ss ≡ length ds → length (rights_among ds ss) ≡ types_among ds
rights_many [] ss e = refl
rights_many (d ∷ ds) [] e = absurd (omega (arith, e))
rights_many (d ∷ ds) (s ∷ ss) e = by (is_type d.entity) (rights_many ds ss (omega (arith, e)))
  where
    by : (b : Bool) → length (rights_among ds ss) ≡ types_among ds → length (if b then s.right ∷ rights_among ds ss else rights_among ds ss) ≡ count_types (b ∷ which_types ds)
    by true g = ap suc g
    by false g = g

-- ---- the number of a type

first_below : (c : Counts) (e : Entity) (bs : List Bool) → is_type e ≡ true → number_of_type (referent_of c e) < c.types + count_types (is_type e ∷ bs)
first_below c entity.Type bs h = omega arith
first_below c e bs h = absurd (true_false false h refl)

counted_more : (c : Counts) (e : Entity) (bs : List Bool) → (counted c e).types + count_types bs ≡ c.types + count_types (is_type e ∷ bs)
counted_more c entity.Type bs = omega arith
counted_more c e bs = refl

number_below : (c : Counts) (ds : List Declared) (n : ℕ) (d : Declared) → slice_get ds n ≡ Some d → is_type d.entity ≡ true
    → number_of_type (referent_there (slice_get (referents_from c ds) n)) < c.types + types_among ds
number_below c [] n d e h = absurd cc
number_below c (x ∷ xs) zero d e h = first_below c x.entity (which_types xs) (ap (λ (z : Declared). is_type z.entity) (same_Some x d e) ∙ h)
number_below c (x ∷ xs) (suc n) d e h =
    subst (λ k. number_of_type (referent_there (slice_get (referents_from (counted c x.entity) xs) n)) < k) (counted_more c x.entity (which_types xs)) (number_below (counted c x.entity) xs n d e h)

-- ---- objects with their specifications

module _ (p : Package) (xs : List Specification) where
  abbrev count : ℕ
  count = types_among p.uses.package_level

  abbrev outline : Declared → Outline
  outline d = outline_by p d (declaring xs d.file d.name)

  -- An object that a specification of a type declares has a number below that of all types; n is the number of the first one.
  abbrev pub TypesBelow : ℕ → ℕ → List Outline → Type 0
  TypesBelow k n [] = Unit {0}
  TypesBelow k n (x ∷ xs) = (is_type x.specification.entity ≡ true → nat_lt (number_of_type (referent_at p n)) k ≡ true) × TypesBelow k (suc n) xs

  own_specification : (d : Declared) (x : Specification × ℕ) → (outline_by p d x).specification ≡ x.0
  own_specification d (s, c) = refl

  below_from : (n : ℕ) (ds : List Declared) → AllByRecursion (Declares xs) ds
      → ((j : ℕ) (d : Declared) → slice_get ds j ≡ Some d → is_type d.entity ≡ true → number_of_type (referent_at p (n + j)) < count) → TypesBelow count n (map outline ds)
  below_from n [] h f = tt
  below_from n (d ∷ ds) h f =
      let here : n + 0 ≡ n = omega arith in (
        λ e. lt-ltb (number_of_type (referent_at p n)) count
            (subst (λ i. number_of_type (referent_at p i) < count) here
            (f 0 d refl (h.0 (ap (λ (z : Specification). is_type z.entity) (sym (own_specification d (declaring xs d.file d.name))) ∙ e)))),
        below_from (suc n) ds h.1 (λ j x e t. let next : n + suc j ≡ suc n + j = omega arith in subst (λ i. number_of_type (referent_at p i) < count) next (f (suc j) x e t)),
      )

  pub types_below : AllByRecursion (Declares xs) p.uses.package_level → TypesBelow count 0 (outlines p xs)
  types_below h = below_from 0 p.uses.package_level h (λ j d e t.
      let here : j ≡ 0 + j = omega arith in
      let low : number_of_type (referent_at p j) < 0 + count = number_below no_counts p.uses.package_level j d e t in
      subst (λ i. number_of_type (referent_at p i) < count) here (omega (arith, low)))
