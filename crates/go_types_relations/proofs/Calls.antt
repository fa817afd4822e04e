-- What the calls of a table tell of trees.
use Rattle.std.proofs.Common.{◌≡◌, ℕ, ◌<◌, ◌⊎◌, inl, inr, Option, Some, None, length, refl, sym, ap, ◌∙◌, arith, Bool}
use Rattle.std.specs.Prelude.{◌^◌, ◌-◌, min, slice_get, ◌↔◌, IsTrue}
use Rattle.std.specs.Option.{option_map}
use Rattle.std.proofs.lemmas.Option.{slice_get-map}
use Rattle.go_types.specs.declared.shape.Shape.{Shape}
use Rattle.go_types.specs.Trees.{Identical}
use Rattle.go_types.specs.Relations.{Comparable, Assignable, Scalars}
use Rattle.go_types.specs.Tables.{Table, IsTable, HasShape, HasRightId, HasPartsBelow, parts, type_of, rights_of, tree_of, IsDefined, IsSettled}
use Rattle.go_types.specs.Verdicts.{kept_count}
use Rattle.go_types.specs.Changes.{IsOpen}
use Rattle.go_types.proofs.Public.{get_there, get_within, all_of, type_of_shape, declared_within, declared_type}
use Rattle.go_types_relations.specs.Questions.{flat, entry}
use Rattle.go_types_relations.specs.Identity.{is_identical}
use Rattle.go_types_relations.specs.Tests.{underlying_by, underlying_of, is_comparable, is_assignable}
use Rattle.go_types_relations.specs.Sizes.{scalars_of}
use Rattle.go_types_relations.proofs.Booleans.{bool_same}
use Rattle.go_types_relations.proofs.Rounds.{open_answers}
use Rattle.go_types_relations.proofs.Identity.{identical_test, test_identical}
use Rattle.go_types_relations.proofs.Comparing.{comparable_test, test_comparable}
use Rattle.go_types_relations.proofs.Assigning.{no_underlying_from, no_underlying_to, assignable_test, test_assignable}
use Rattle.go_types_relations.proofs.Counting.{scalars_told}
use Rattle.go_types_relations.proofs.Settled.{counted_settled}

-- ---- types without a right side

pub defined_or_open : (t : Table) → IsTable t → (i : ℕ) → (IsOpen t i → ⊥) → IsDefined t i
defined_or_open t ok i closed n h =
    let there = get_there t.rights n (declared_within t ok i n h) in
    by there.0 there.1
  where
    by : (o : Option ℕ) → slice_get t.rights n ≡ Some o → (r : ℕ) × HasRightId t n r
    by None e = absurd (closed (n, h, e))
    by (Some r) e = (r, e)

pub open_entry : (t : Table) (i : ℕ) (o : IsOpen t i) → entry (rights_of t) o.0 ≡ None
unfolding rights_of
open_entry t i o = ap flat (slice_get-map (option_map (type_of t.shapes)) t.rights o.0 ∙ ap (option_map (option_map (type_of t.shapes))) o.2)

pub open_told : (t : Table) → IsTable t → (i : ℕ) → IsOpen t i → underlying_of (rights_of t) (type_of t.shapes i) ≡ None
open_told t ok i o = ap (underlying_of (rights_of t)) (declared_type t ok i o.0 o.1) ∙ open_answers underlying_by (rights_of t) o.0 (open_entry t i o)

-- ---- the answers

pub shape_tree : (t : Table) → IsTable t → (i : ℕ) (s : Shape) → HasShape t i s → type_of t.shapes i ≡ tree_of (type_of t.shapes) s
shape_tree t ok i s h = type_of_shape t.shapes ok.parts_below i s h

pub shape_parts : (t : Table) → IsTable t → (i : ℕ) (s : Shape) → HasShape t i s → HasPartsBelow (length t.shapes) s
shape_parts t ok i s h = let within = get_within t.shapes i s h in all_of (λ p. p < i) (λ p. p < length t.shapes) (parts s) (λ p l. omega (arith, l, within)) (ok.parts_below i s h)

pub same_identical : (t : Table) (a b : ℕ) (r : Bool) → IsTrue r ↔ Identical (type_of t.shapes a) (type_of t.shapes b) → r ≡ is_identical (type_of t.shapes a) (type_of t.shapes b)
same_identical t a b r h = bool_same r (is_identical (type_of t.shapes a) (type_of t.shapes b)) h (test_identical (type_of t.shapes a) (type_of t.shapes b)) (identical_test (type_of t.shapes a) (type_of t.shapes b))

pub same_assignable : (t : Table) (a b : ℕ) (r : Bool) → IsTrue r ↔ Assignable (rights_of t) (type_of t.shapes a) (type_of t.shapes b) → r ≡ is_assignable (rights_of t) (type_of t.shapes a) (type_of t.shapes b)
same_assignable t a b r h = bool_same r (is_assignable (rights_of t) (type_of t.shapes a) (type_of t.shapes b)) h (test_assignable (rights_of t) (type_of t.shapes a) (type_of t.shapes b)) (assignable_test (rights_of t) (type_of t.shapes a) (type_of t.shapes b))

pub same_comparable : (t : Table) (a : ℕ) (r : Bool) → IsTrue r ↔ Comparable (rights_of t) (type_of t.shapes a) → r ≡ is_comparable (rights_of t) (type_of t.shapes a)
same_comparable t a r h = bool_same r (is_comparable (rights_of t) (type_of t.shapes a)) h (test_comparable (rights_of t) (type_of t.shapes a)) (comparable_test (rights_of t) (type_of t.shapes a))

-- a type without a right side is assignable where it is identical
pub open_assignable : (t : Table) → IsTable t → (from to : ℕ) → IsOpen t from ⊎ IsOpen t to → is_identical (type_of t.shapes from) (type_of t.shapes to) ≡ is_assignable (rights_of t) (type_of t.shapes from) (type_of t.shapes to)
open_assignable t ok from to (inl o) = sym (no_underlying_from (rights_of t) (type_of t.shapes from) (type_of t.shapes to) (open_told t ok from o))
open_assignable t ok from to (inr o) = sym (no_underlying_to (rights_of t) (type_of t.shapes from) (type_of t.shapes to) (open_told t ok to o))

-- ---- counts

pub counted : (t : Table) (a r : ℕ) → (n : ℕ) × Scalars (rights_of t) (type_of t.shapes a) n → ((n : ℕ) → Scalars (rights_of t) (type_of t.shapes a) n → r ≡ min n (2 ^ 64 - 1)) → Some r ≡ option_map kept_count (scalars_of (rights_of t) (type_of t.shapes a))
counted t a r one count = ap Some (count one.0 one.1) ∙ sym (ap (option_map kept_count) (scalars_told (rights_of t) (type_of t.shapes a) one.0 one.1))

pub uncounted : (t : Table) → IsTable t → (a : ℕ) → (IsSettled t a → ⊥) → None ≡ option_map kept_count (scalars_of (rights_of t) (type_of t.shapes a))
uncounted t ok a unsettled = by (scalars_of (rights_of t) (type_of t.shapes a)) refl
  where
    by : (o : Option ℕ) → scalars_of (rights_of t) (type_of t.shapes a) ≡ o → None ≡ option_map kept_count o
    by None e = refl
    by (Some n) e = absurd (unsettled (counted_settled t ok a (n, e)))
