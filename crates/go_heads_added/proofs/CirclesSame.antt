-- A declaration needs itself by way of no more others than there are ways of needing declarations, however many rounds are looked at.
use Rattle.std.proofs.Common.{◌≡◌, ◌∙◌, ℕ, ◌+◌, ◌-◌, ◌≤◌, inl, inr, Bool, true, false, ◌&&◌, ◌||◌, List, [], ◌∷◌, length, Option, Some, None, ap, arith}
use Rattle.std.specs.Prelude.{nat_eq}
use Rattle.std.specs.List.{AllByRecursion}
use Rattle.go_tree.specs.Declarations.{Found}
use Rattle.go_tree.specs.Lookups.{Asked}
use Rattle.go_tree.specs.Meanings.{Meaning}
use Rattle.go_tree.specs.Needs.{Needed, if_so, way, needed_source, needed_meaning, needs, is_same, is_among, same_way, is_known, with_all, all_needed, needs_itself}
use Rattle.go_scopes_cycles.proofs.Public.{or_last}
use Rattle.go_scopes_cycles.specs.Closure.{IsDeclared}
use Rattle.go_heads_added.proofs.Circles.{Maybe, SourceHas}
use Rattle.go_heads_added.proofs.Closing.{both_count, both_ways, many_more, with_more}

known_declared : (x : Needed) (ds : List Found) → IsDeclared x.it ds → is_known x (both_ways ds) ≡ true
known_declared x [] h = absurd h
known_declared x (d ∷ ds) (inr h) =
    or_last (is_same x.it d && same_way x.full true) ((is_same x.it d && same_way x.full false) || is_known x (both_ways ds))
    (or_last (is_same x.it d && same_way x.full false) (is_known x (both_ways ds)) (known_declared x ds h))
known_declared x (d ∷ ds) (inl e) = by x.full
  where
    by : (f : Bool) → ((is_same x.it d && same_way f true) || ((is_same x.it d && same_way f false) || is_known x (both_ways ds))) ≡ true
    by true = ap (λ b. (b && true) || ((b && false) || is_known x (both_ways ds))) e
    by false = ap (λ b. (b && false) || ((b && true) || is_known x (both_ways ds))) e

module _ (asks : List Asked) (ds : List Found) where
  abbrev P : Needed → Type 0
  P x = IsDeclared x.it ds

  abbrev Told : Asked → Type 0
  Told a = Maybe (λ m. SourceHas (λ d. IsDeclared d ds) m.source) a.meaning

  source_declared : (f : Bool) (s : Option Found) (ns : List Needed) → SourceHas (λ d. IsDeclared d ds) s → AllByRecursion P ns → AllByRecursion P (needed_source f s ns)
  source_declared f None ns h k = k
  source_declared f (Some d) ns h k = (h, k)

  meaning_declared : (w : Option Bool) (m : Option Meaning) (ns : List Needed) → Maybe (λ v. SourceHas (λ d. IsDeclared d ds) v.source) m → AllByRecursion P ns → AllByRecursion P (needed_meaning w m ns)
  meaning_declared None m ns h k = k
  meaning_declared (Some f) None ns h k = k
  meaning_declared (Some f) (Some m) ns h k = source_declared f m.source ns h k

  needs_declared : (xs : List Asked) → AllByRecursion Told xs → (x : Needed) → AllByRecursion P (needs xs x)
  needs_declared [] h x = tt
  needs_declared (a ∷ xs) h x = meaning_declared (if_so (nat_eq a.file x.it.file) (way x.it.it x.full a.it.site)) a.meaning (needs xs x) h.0 (needs_declared xs h.1 x)

  pub itself_settled : AllByRecursion Told asks → (k : ℕ) → length ds + length ds ≤ k → (d : Found) → needs_itself asks k d ≡ needs_itself asks (length ds + length ds) d
  itself_settled told k low d =
      let x : Needed = record { it = d; full = false } in
      let c = with_all (needs asks x) [] in
      let r = length ds + length ds in
      let count = both_count ds in
      ap (λ i. is_among d (all_needed asks i c)) (let z : k ≡ r + (k - r) = omega (arith, low) in z)
      ∙ ap (is_among d)
      (many_more P asks (λ y h. needs_declared asks told y) (both_ways ds) (λ y h. known_declared y ds h) r (k - r) c (with_more P (needs asks x) [] (needs_declared asks told x) tt)
      (let z : length (both_ways ds) ≤ r = omega (arith, count) in z))
