-- Declarations that are sorted by their ranks stand each behind those that it needs.
use Rattle.std.proofs.Common.{◌≡◌, ◌≤◌, ◌<◌, ◌-◌, ◌∙◌, ℕ, zero, suc, Bool, true, false, ◌&&◌, nat_le, List, [], ◌∷◌, length, map, get_or, refl, sym, arith}
use Rattle.std.specs.HashMap.{HashMap}
use Rattle.std.specs.Prelude.{IsPermutation}
use Rattle.std.specs.List.{All}
use Rattle.std.specs.List.Sorted.{IsNonDecreasingBy}
use Rattle.std.proofs.lemmas.List.Elements.{All-cons}
use Rattle.std.proofs.lemmas.List.Sorted.{All-permutation}
use Rattle.go_tree.specs.Declarations as rules
use Rattle.go_tree.specs.Lookups.{Asked}
use Rattle.go_tree.specs.Needs.{Needed, needs, with_all, all_needed}
use Rattle.go_scopes_lookup.specs.declared.found.Found.{Found}
use Rattle.go_scopes_lookup.specs.Views.{found_view}
use Rattle.go_scopes_cycles.specs.declared.ranks.Rank.{Rank}
use Rattle.go_scopes_cycles.specs.declared.order.Order.{Order}
use Rattle.go_scopes_cycles.specs.Ranks.{Place, rank_of, is_within, CoversAll, are_ranked, is_above}
use Rattle.go_scopes_cycles.specs.Order.{IsOrder, rank_by, is_placed, are_placed, needs_other, NeedsNone, StandInOrder}
use Rattle.go_scopes_cycles.proofs.Ranked.{Each, each_all, each_more, IsLow, needs_low, all_low, none_among, above_first, above_second, above_third, both_left, both_right}

-- It needs none of its own rank or a higher one.
none_needed : {S T : Type 0} (m : HashMap Place ℕ S) (ranks : HashMap (ℕ × ℕ) Rank T) (asks : List Asked) (k : ℕ) (d x : rules.Found) → CoversAll m ranks asks → are_ranked m ranks asks ≡ true → is_above m ranks d ≡ true → is_above m ranks x ≡ true → rank_of ranks d.file d.it.name false ≤ rank_of ranks x.file x.it.name false → needs_other asks k d x ≡ false
none_needed m ranks asks k d x covers ranked above up le =
    let own = rank_of ranks d.file d.it.name false in
    let full = rank_of ranks d.file d.it.name true in
    let inside = is_within m d false (own - 1) in
    let other = rank_of ranks x.file x.it.name false in
    let most = rank_of ranks x.file x.it.name true in
    let within = is_within m x false (other - 1) in
    let first : Needed = record { it = d; full = false } in
    let low = IsLow m ranks (own - 1) in
    let all = all_needed asks k (with_all (needs asks first) []) in
    let start = needs_low m ranks asks first (own - 1) covers ranked (above_third (nat_le 1 own && nat_le own full) inside above) in
    let lows : Each low all = all_low m ranks asks k (with_all (needs asks first) []) (own - 1) covers ranked (each_all low (needs asks first) [] start tt) in
    none_among m ranks x all (above_first other most within up) (above_second other most within up)
    (each_more low (IsLow m ranks (other - 1)) all (λ y p. record { low = omega (arith, p.low, le); ranked = p.ranked }) lows)

abbrev Placed : Order → Found → Type 0
Placed o d = is_placed o (found_view d) ≡ true

pub all_placed : (o : Order) (ds : List Found) → are_placed o (map found_view ds) ≡ true → All (Placed o) ds
all_placed o [] e = λ k d lt. absurd (omega arith)
all_placed o (d ∷ ds) e = All-cons (Placed o) d ds (both_left (is_placed o (found_view d)) (are_placed o (map found_view ds)) e) (all_placed o ds (both_right (is_placed o (found_view d)) (are_placed o (map found_view ds)) e))

placed_above : (o : Order) (d : Found) → Placed o d → is_above o.bounds o.ranks (found_view d) ≡ true
placed_above o d e = both_right o.holds (is_above o.bounds o.ranks (found_view d)) e

all_rest : (P : Found → Type 0) (d : Found) (ds : List Found) → All P (d ∷ ds) → All P ds
all_rest P d ds h = λ k e lt. h (suc k) e (omega (arith, lt))

needs_none : (o : Order) (asks : List Asked) (d : Found) (ds : List Found) → IsOrder o asks → Placed o d → All (Placed o) ds → ((j : ℕ) (e : Found) → j < length ds → rank_by o (found_view d) ≤ rank_by o (found_view (get_or ds j e))) → NeedsNone asks (found_view d) (map found_view ds)
needs_none o asks d [] h p q le = tt
needs_none o asks d (x ∷ xs) h p q le = (
  λ k. none_needed o.bounds o.ranks asks k (found_view d) (found_view x) h.0 (sym h.1 ∙ both_left o.holds (is_above o.bounds o.ranks (found_view d)) p) (placed_above o d p) (placed_above o x (q 0 x (omega arith))) (le 0 x (omega arith)),
  needs_none o asks d xs h p (all_rest (Placed o) x xs q) (λ j e lt. le (suc j) e (omega (arith, lt))),
)

pub in_order : (o : Order) (asks : List Asked) (ds : List Found) → IsOrder o asks → All (Placed o) ds → IsNonDecreasingBy (λ d. rank_by o (found_view d)) ds → StandInOrder asks (map found_view ds)
in_order o asks [] h p up = tt
in_order o asks (d ∷ ds) h p up = (
  needs_none o asks d (d ∷ ds) h (p 0 d (omega arith)) p (λ j e lt. up 0 j e (omega arith) lt),
  in_order o asks ds h (all_rest (Placed o) d ds p) (λ i j e le lt. up (suc i) (suc j) e (omega (arith, le)) (omega (arith, lt))),
)

pub placed_in_order : (o : Order) (asks : List Asked) (ds es : List Found) → IsOrder o asks → are_placed o (map found_view ds) ≡ true → IsPermutation ds es → IsNonDecreasingBy (λ d. rank_by o (found_view d)) es → StandInOrder asks (map found_view es)
placed_in_order o asks ds es h p s up = in_order o asks es h (All-permutation (Placed o) ds es s (all_placed o ds p)) up
