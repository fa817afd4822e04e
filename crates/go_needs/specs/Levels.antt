-- How far objects are from one that fails.
use Rattle.std.specs.Prelude.{◌≡◌, ℕ, suc, Bool, true, false, ◌&&◌, ◌||◌, not, if◌then◌else◌, min, nat_le, nat_lt, List, [], ◌∷◌, slice_get, Option, Some, None, is_some, unwrap_or}
use Rattle.std.specs.HashMap.{HashMap}
use Rattle.std.specs.HashMap as hash
use Rattle.go_needs.specs.declared.calls.Call.{Call}
use Rattle.go_needs.specs.declared.levels.Levels.{Levels}
use Rattle.go_needs.specs.declared.owners.Owner.{Owner}
use Rattle.go_scopes_cycles.specs.declared.ranks.Part.TheVariants as part
use Rattle.go_scopes_cycles.specs.Ranks.{Place, same_place, own_part}

abbrev pub level_in : Option Levels → Bool → Option ℕ
level_in None f = None
level_in (Some l) true = l.fully
level_in (Some l) false = l.partly

-- the level of the object of this number, needed in full or in part
abbrev pub level_of : List Levels → ℕ → Bool → Option ℕ
level_of ls n f = level_in (slice_get ls n) f

-- the lower of two levels
abbrev pub nearer : Option ℕ → Option ℕ → Option ℕ
nearer None b = b
nearer (Some x) None = Some x
nearer (Some x) (Some y) = Some (min x y)

abbrev pub here : Option Place → Place → Option ℕ → Option ℕ
here None k l = None
here (Some q) k l = if same_place q k then l else None

-- the lowest level of what the names of a place call for
abbrev pub nearest : List Levels → List Call → Place → Option ℕ
nearest ls [] k = None
nearest ls (c ∷ cs) k = nearer (here c.full k (level_of ls c.number true)) (nearer (here c.partial k (level_of ls c.number false)) (nearest ls cs k))

-- The map has the lowest levels of all places.
abbrev pub KnowsNearest : {S : Type 0} → HashMap Place ℕ S → List Levels → List Call → Type 0
KnowsNearest m ls cs = (k : Place) → hash.get same_place m k ≡ nearest ls cs k

abbrev pub near_in : (Place → Option ℕ) → ℕ → Option ℕ → ℕ → Bool → Option ℕ
near_in g n None c f = None
near_in g n (Some s) c f = nearer (g ((n, s), part.Always)) (nearer (g ((n, s), part.Value c)) (g ((n, s), own_part f)))

-- the lowest level of what a declaration needs
abbrev pub near : (Place → Option ℕ) → Owner → Bool → Option ℕ
near g o f = near_in g o.file o.source o.column f

abbrev pub is_below : Option ℕ → ℕ → Bool
is_below None l = false
is_below (Some j) l = nat_lt j l

-- whether a level is right: there is none where it doesn't fail and needs none with a level; else it is no higher than r, and it fails or
-- needs one of a lower level
abbrev pub settled : Bool → Option ℕ → Option ℕ → ℕ → Bool
settled fails None next r = not fails && not (is_some next)
settled fails (Some l) next r = nat_le l r && (fails || is_below next l)

abbrev pub fails_at : List Bool → ℕ → Bool
fails_at bs n = unwrap_or (slice_get bs n) false

abbrev pub is_settled : (Place → Option ℕ) → List Levels → List Bool → ℕ → ℕ → Owner → Bool
is_settled g ls bs r n o = settled (fails_at bs n) (level_of ls n false) (near g o false) r && settled (fails_at bs n) (level_of ls n true) (near g o true) r

-- whether the levels of the objects from the number n on are
abbrev pub are_settled : (Place → Option ℕ) → List Levels → List Bool → ℕ → ℕ → List Owner → Bool
are_settled g ls bs r n [] = true
are_settled g ls bs r n (o ∷ os) = is_settled g ls bs r n o && are_settled g ls bs r (suc n) os
