-- What a declaration needs has a lower rank.
use Rattle.std.proofs.Common.{◌≡◌, ◌≤◌, ◌<◌, ◌-◌, ◌∙◌, ℕ, Bool, true, false, ◌&&◌, nat_le, List, [], ◌∷◌, refl, subst, arith, Option, Some, None}
use Rattle.std.specs.HashMap.{HashMap}
use Rattle.go_tree.specs.Declarations.{Found}
use Rattle.go_tree.specs.Lookups.{Asked}
use Rattle.go_tree.specs.Needs.{Needed, needs}
use Rattle.go_scopes_cycles.specs.Needs.{source_of, way_of, needed_by}
use Rattle.go_scopes_cycles.specs.declared.ranks.Rank.{Rank}
use Rattle.go_scopes_cycles.specs.declared.order.Order.{Order}
use Rattle.go_scopes_cycles.specs.Order.{rank_by, AllBelow, NeedsBelow}
use Rattle.go_scopes_cycles.specs.Ranks.{Place, rank_of, is_within, Covers, CoversAll, is_above, is_source_above, are_above}
use Rattle.go_scopes_cycles.proofs.Ranked.{both_left, both_right, needed_source_of, needed_rank, needs_by, Each, above_first, above_second}

source_above : {S T : Type 0} (m : HashMap Place ℕ S) (ranks : HashMap (ℕ × ℕ) Rank T) (s : Option Found) (d : Found) → s ≡ Some d → is_source_above m ranks s ≡ true → is_above m ranks d ≡ true
source_above m ranks s d e h = subst (λ o. is_source_above m ranks o ≡ true) e h

-- in part it has no higher rank than in full
partial_low : {T : Type 0} (ranks : HashMap (ℕ × ℕ) Rank T) (y : Found) (f : Bool) (r : ℕ) → rank_of ranks y.file y.it.name false ≤ rank_of ranks y.file y.it.name true → rank_of ranks y.file y.it.name f ≤ r → rank_of ranks y.file y.it.name false ≤ r
partial_low ranks y true r h low = omega (arith, h, low)
partial_low ranks y false r h low = low

abbrev IsLow : {T : Type 0} → HashMap (ℕ × ℕ) Rank T → ℕ → Needed → Type 0
IsLow ranks r y = rank_of ranks y.it.file y.it.it.name false ≤ r

needs_low : {S T : Type 0} (m : HashMap Place ℕ S) (ranks : HashMap (ℕ × ℕ) Rank T) (asks : List Asked) (x : Needed) (r : ℕ) → CoversAll m ranks asks → are_above m ranks asks ≡ true → is_within m x.it x.full r ≡ true → Each (IsLow ranks r) (needs asks x)
needs_low m ranks [] x r covers above within = tt
needs_low m ranks (a ∷ asks) x r covers above within =
    let own : is_source_above m ranks (source_of a.meaning) ≡ true = both_left (is_source_above m ranks (source_of a.meaning)) (are_above m ranks asks) above in
    let rest : are_above m ranks asks ≡ true = both_right (is_source_above m ranks (source_of a.meaning)) (are_above m ranks asks) above in
    needs_by (IsLow ranks r) a asks x (needed_by a x) refl
    (λ y e.
    let d = y.it in
    let up : is_above m ranks d ≡ true = source_above m ranks (source_of a.meaning) d (needed_source_of (way_of a x) (source_of a.meaning) y e) own in
    let part = rank_of ranks d.file d.it.name false in
    partial_low ranks d y.full r (above_second part (rank_of ranks d.file d.it.name true) (is_within m d false (part - 1)) up) (needed_rank m ranks a x y r covers.0 within e))
    (needs_low m ranks asks x r covers.1 rest within)

all_below : (o : Order) (r : ℕ) (xs : List Needed) → 1 ≤ r → Each (IsLow o.ranks (r - 1)) xs → AllBelow o r xs
all_below o r [] one h = tt
all_below o r (y ∷ ys) one h = (omega (arith, one, h.0), all_below o r ys one h.1)

pub needs_below : (o : Order) (asks : List Asked) (d : Found) → CoversAll o.bounds o.ranks asks → are_above o.bounds o.ranks asks ≡ true → is_above o.bounds o.ranks d ≡ true → NeedsBelow o (rank_by o d) asks d
needs_below o asks d covers above up =
    let own = rank_by o d in
    let full = rank_of o.ranks d.file d.it.name true in
    let inside = is_within o.bounds d false (own - 1) in
    let first : Needed = record { it = d; full = false } in
    all_below o own (needs asks first) (above_first own full inside up) (needs_low o.bounds o.ranks asks first (own - 1) covers above (both_right (nat_le 1 own && nat_le own full) inside up))
