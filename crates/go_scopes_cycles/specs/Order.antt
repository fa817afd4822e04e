-- What is known of an order of declarations.
use Rattle.std.specs.Prelude.{◌≡◌, ℕ, ◌<◌, Bool, true, false, ◌&&◌, if◌then◌else◌, List, [], ◌∷◌, Option, Some, None}
use Rattle.go_tree.specs.Declarations.{Found}
use Rattle.go_tree.specs.Lookups.{Asked}
use Rattle.go_tree.specs.Needs.{Needed, is_among, with_all, needs, all_needed}
use Rattle.go_scopes_cycles.specs.Columns.{AreAlike}
use Rattle.go_scopes_cycles.specs.Ranks.{CoversAll, rank_of, are_ranked, is_above, are_above}
use Rattle.go_scopes_cycles.specs.declared.order.Order.{Order}

-- The bounds are those of the ranks, and it is known whether no name calls for a declaration of a higher rank. Where they are
-- said to be alike, the declarations of one name are. It is known whether all that names call for need only ones of lower ranks.
abbrev pub IsOrder : Order → List Asked → Type 0
IsOrder o asks = CoversAll o.bounds o.ranks asks × (o.holds ≡ are_ranked o.bounds o.ranks asks) × (o.alike ≡ true → AreAlike asks) × (o.ordered ≡ are_above o.bounds o.ranks asks)

-- the rank of a declaration
abbrev pub rank_by : Order → Found → ℕ
rank_by o d = rank_of o.ranks d.file d.it.name false

abbrev pub AllBelow : Order → ℕ → List Needed → Type 0
AllBelow o r [] = Unit {0}
AllBelow o r (y ∷ ys) = (rank_by o y.it < r) × AllBelow o r ys

-- What a declaration needs at once has lower ranks than r.
abbrev pub NeedsBelow : Order → ℕ → List Asked → Found → Type 0
NeedsBelow o r asks d = AllBelow o r (needs asks (record { it = d; full = false }))

-- its rank, where all declarations that names call for need only ones of lower ranks, and so does this one
abbrev pub rank_shown : Order → Found → Option ℕ
rank_shown o d = if o.ordered && is_above o.bounds o.ranks d then Some (rank_by o d) else None

-- Whether the ranks show that a declaration needs only ones of lower ranks, at once or through others: no name calls for a
-- declaration that needs one of a higher rank, and this one needs only ones of lower ranks at once.
abbrev pub is_placed : Order → Found → Bool
is_placed o d = o.holds && is_above o.bounds o.ranks d

abbrev pub are_placed : Order → List Found → Bool
are_placed o [] = true
are_placed o (d ∷ ds) = is_placed o d && are_placed o ds

-- whether a declaration needs another one, at once or by way of others, in at most k rounds
abbrev pub needs_other : List Asked → ℕ → Found → Found → Bool
needs_other asks k d x = is_among x (all_needed asks k (with_all (needs asks (record { it = d; full = false })) []))

abbrev pub NeedsNone : List Asked → Found → List Found → Type 0
NeedsNone asks d [] = Unit {0}
NeedsNone asks d (x ∷ xs) = ((k : ℕ) → needs_other asks k d x ≡ false) × NeedsNone asks d xs

-- Each declaration stands behind those that it needs: it needs neither itself nor one that stands behind it.
abbrev pub StandInOrder : List Asked → List Found → Type 0
StandInOrder asks [] = Unit {0}
StandInOrder asks (d ∷ ds) = NeedsNone asks d (d ∷ ds) × StandInOrder asks ds
