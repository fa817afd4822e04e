-- Between two segments a name means the same.
use Rattle.std.proofs.Common.{◌≡◌, ◌∙◌, ℕ, ◌<◌, ◌≤◌, ◌⊎◌, inl, inr, refl, true, false, nat_le, if◌then◌else◌, List, [], ◌∷◌, Option, None, map, sym, ap, arith}
use Rattle.std.proofs.lemmas.Bool.Decides.{nat_tests}
use Rattle.std.specs.List.{AllByRecursion}
use Rattle.std.specs.Option.{option_map}
use Rattle.go_tree.specs.Meanings.{Meaning}
use Rattle.go_scopes_events.specs.Scopes.{is_import, is_package, first_by, inmost, reached, locals_of, AreNested}
use Rattle.go_scopes_events.proofs.Public.{meaning_reached}
use Rattle.go_scopes_lookup.specs.Views.{meaning_view}
use Rattle.go_scopes_named.specs.declared.segments.Segment.{Segment}
use Rattle.go_scopes_named.specs.Changes.{AreAscending, AreChanges}
use Rattle.go_scopes_named.specs.Named.{named_locals}
use Rattle.go_scopes_named.specs.Segments.{AreRising, AreSegments, said, said_over}
use Rattle.go_scopes_named.proofs.ByName.{inmost_named}

abbrev pub froms : List Segment → List ℕ
froms ss = map (λ s. s.from) ss

above : (k : ℕ) (ss : List Segment) → AllByRecursion (λ r. k ≤ r.from) ss → AllByRecursion (λ c. k ≤ c) (froms ss)
above k [] h = tt
above k (s ∷ ss) h = (h.0, above k ss h.1)

pub in_order : (ss : List Segment) → AreRising ss → AreAscending (froms ss)
in_order [] h = tt
in_order (s ∷ ss) h = (above s.from ss h.0, in_order ss h.1)

begun_alike : (b s t : ℕ) → s ≤ t → (b ≤ s) ⊎ (t < b) → nat_le b s ≡ nat_le b t
begun_alike b s t le (inl p) =
    let early : nat_le b s ≡ true = grind (arith, nat_tests, p) in
    let late : nat_le b t ≡ true = grind (arith, nat_tests, p, le) in
    early ∙ sym late
begun_alike b s t le (inr p) =
    let early : nat_le b s ≡ false = grind (arith, nat_tests, p, le) in
    let late : nat_le b t ≡ false = grind (arith, nat_tests, p) in
    early ∙ sym late

said_alike : (s t : ℕ) (a : Option Meaning) (xs : List Segment) → s ≤ t → AllByRecursion (λ b. (b ≤ s) ⊎ (t < b)) (froms xs) → said_over s a xs ≡ said_over t a xs
said_alike s t a [] le h = refl
said_alike s t a (x ∷ xs) le h =
    ap (λ b. said_over s (if b then option_map meaning_view x.meaning else a) xs) (begun_alike x.from s t le h.0)
    ∙ said_alike s t (if nat_le x.from t then option_map meaning_view x.meaning else a) xs le h.1

pub changes_told : (n : ℕ) (w : List ℕ) (ms : List Meaning) (ss : List Segment) → AreNested (locals_of n ms) → AreSegments n ss (named_locals n w ms) → AreChanges n w ms (froms ss)
changes_told n w ms ss nested told s t le apart =
    let local : (k : ℕ) → said k ss ≡ inmost n k w None (locals_of n ms) = λ k. told.says k ∙ inmost_named n k w None ms in
    meaning_reached n s w ms nested
    ∙ ap (λ o. reached o (first_by (is_import n) w ms) (first_by is_package w ms)) (sym (local s) ∙ said_alike s t None ss le apart ∙ local t)
    ∙ sym (meaning_reached n t w ms nested)
