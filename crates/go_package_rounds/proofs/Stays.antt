-- What is held stands for the same in a table with more types.
use Rattle.std.proofs.Common.{◌≡◌, ℕ, zero, suc, ◌<◌, Bool, List, [], ◌∷◌, length, map, Option, Some, None, refl, ap, sym, ◌∙◌, arith}
use Rattle.std.specs.Prelude.{slice_get}
use Rattle.std.specs.Option.{option_map}
use Rattle.go_types.specs.declared.shape.Shape.{Shape}
use Rattle.go_types.specs.Tables.{Table, IsTable, type_of}
use Rattle.go_types_relations.specs.Extends.{Extends}
use Rattle.go_types_relations.proofs.Public.{tree_stays}
use Rattle.go_typed.specs.declared.sort.Sort.{Sort}
use Rattle.go_typed.specs.Views.{sort_seen, KnownSort}
use Rattle.go_exprs_rules.specs.Scopes.{Needed, in_full, at_once, loosely}
use Rattle.go_exprs_rules.specs.Sorts.{Stands}
use Rattle.go_exprs_types.specs.declared.standing.Standing.{Standing}
use Rattle.go_exprs_types.specs.Naming.{told_seen, sort_of_object, KnownStanding}
use Rattle.go_exprs_engine.proofs.Public.{longer, sort_known, sort_stays, basics_stay}
use Rattle.go_package_defs.specs.Knowledge.{State}
use Rattle.go_package_rounds.specs.declared.held.Held.{Held}
use Rattle.go_package_rounds.specs.declared.world.World.{World}
use Rattle.go_package_rounds.specs.Held.{Summary, held_seen, all_seen, KnownRight, KnownHeld, AllHeld}
use Rattle.go_package_rounds.specs.World.{AreNamed, Fits, StandsFor, KnownStandings}

module _ (old new : Table) (ok : IsTable old) (e : Extends old new) where
  pub below : (i : ℕ) → i < length old.shapes → i < length new.shapes
  below i h = let l = longer old new ok e in omega (arith, h, l)

  pub named_more : (is : List ℕ) → AreNamed old is → AreNamed new is
  named_more is h k i there = (below i (h k i there).0, tree_stays old new ok e i (h k i there).0 ∙ (h k i there).1)

  pub fits_more : (w : World) → Fits old w → Fits new w
  fits_more w h = record {
    needs = h.needs;
    env = h.env;
    named = named_more w.named.now h.named;
    basics = basics_stay old new ok e w.basics h.basics;
    literals = h.literals;
  }

  -- ---- standings

  standing_more : (x : Standing) → KnownStanding (length old.shapes) x → KnownStanding (length new.shapes) x
  standing_more x h = record { in_full = sort_known old new ok e x.in_full h.in_full; at_once = sort_known old new ok e x.at_once h.at_once; loosely = sort_known old new ok e x.loosely h.loosely }

  pub standings_more : (xs : List Standing) → KnownStandings (length old.shapes) xs → KnownStandings (length new.shapes) xs
  standings_more xs h k x is = standing_more x (h k x is)

  got_stays : (get : Standing → Sort) (xs : List Standing) → ((k : ℕ) (x : Standing) → slice_get xs k ≡ Some x → KnownSort (length old.shapes) (get x)) → map (λ x. sort_seen new (get x)) xs ≡ map (λ x. sort_seen old (get x)) xs
  got_stays get [] h = refl
  got_stays get (x ∷ xs) h =
      ap (λ y. y ∷ map (λ x. sort_seen new (get x)) xs) (sort_stays old new ok e (get x) (h 0 x refl)) ∙ ap (λ ys. sort_seen old (get x) ∷ ys) (got_stays get xs (λ k y is. h (suc k) y is))

  told_stays : (xs : List Standing) → KnownStandings (length old.shapes) xs → (need : Needed) → told_seen new xs need ≡ told_seen old xs need
  told_stays xs h in_full = got_stays (λ x. x.in_full) xs (λ k x is. (h k x is).in_full)
  told_stays xs h at_once = got_stays (λ x. x.at_once) xs (λ k x is. (h k x is).at_once)
  told_stays xs h loosely = got_stays (λ x. x.loosely) xs (λ k x is. (h k x is).loosely)

  pub stand_more : (w : World) (test : State → Bool) (xs : List Standing) (ss : List State) → KnownStandings (length old.shapes) xs → StandsFor old w test xs ss → StandsFor new w test xs ss
  stand_more w test xs ss h s need o = ap (λ ys. sort_of_object ys [] [] o) (told_stays xs h need) ∙ s need o

  -- ---- what is held

  pub right_more : (o : Option ℕ) → KnownRight (length old.shapes) o → KnownRight (length new.shapes) o
  right_more None h = tt
  right_more (Some i) h = below i h

  pub right_stays : (o : Option ℕ) → KnownRight (length old.shapes) o → option_map (type_of new.shapes) o ≡ option_map (type_of old.shapes) o
  right_stays None h = refl
  right_stays (Some i) h = ap (λ x. Some x) (tree_stays old new ok e i h)

  pub held_more : (h : Held) → KnownHeld (length old.shapes) h → KnownHeld (length new.shapes) h
  held_more h k = record { right = right_more h.right k.right; stands = sort_known old new ok e h.stands k.stands }

  pub all_more : (hs : List Held) → AllHeld (length old.shapes) hs → AllHeld (length new.shapes) hs
  all_more [] a = tt
  all_more (h ∷ hs) a = (held_more h a.0, all_more hs a.1)

  pub held_stays : (h : Held) → KnownHeld (length old.shapes) h → held_seen new h ≡ held_seen old h
  held_stays h k =
      ap (λ r. let s : Summary = record { right = r; stands = sort_seen new h.stands; fault = h.fault; assigning = h.assigning } in s) (right_stays h.right k.right)
      ∙ ap (λ (x : Stands). let s : Summary = record { right = option_map (type_of old.shapes) h.right; stands = x; fault = h.fault; assigning = h.assigning } in s) (sort_stays old new ok e h.stands k.stands)

  pub all_stay : (hs : List Held) → AllHeld (length old.shapes) hs → all_seen new hs ≡ all_seen old hs
  all_stay [] a = refl
  all_stay (h ∷ hs) a = ap (λ x. x ∷ all_seen new hs) (held_stays h a.0) ∙ ap (λ xs. held_seen old h ∷ xs) (all_stay hs a.1)

-- and in one with the same types
pub seen_in : (old new : Table) (hs : List Held) → new.shapes ≡ old.shapes → all_seen new hs ≡ all_seen old hs
seen_in old new hs e = ap (λ (xs : List Shape). all_seen (record { shapes = xs; rights = [] }) hs) e
