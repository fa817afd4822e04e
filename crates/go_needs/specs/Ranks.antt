-- Ranks of specifications, by which none needs one of a higher rank, and what they show of those that are blocked.
use Rattle.std.specs.Prelude.{◌≡◌, ℕ, zero, suc, ◌-◌, Bool, true, false, ◌&&◌, ◌||◌, nat_le, nat_lt, List, [], ◌∷◌, slice_get, Option, Some, None, unwrap_or}
use Rattle.go_needs.specs.declared.bounds.Bound.{Bound}
use Rattle.go_needs.specs.declared.declaring.Declaring.{Declaring}
use Rattle.go_needs.specs.declared.groups.Group.{Group}
use Rattle.go_needs.specs.declared.levels.Levels.{Levels}
use Rattle.go_needs.specs.declared.owners.Owner.{Owner}
use Rattle.go_package_defs.specs.Declarations.{Specification}
use Rattle.go_package_defs.specs.Sources.{Package}
use Rattle.go_package_defs.specs.Verdicts.{needed_by_all}
use Rattle.go_needs.specs.Bounds.{AllAtMost, is_low}
use Rattle.go_needs.specs.Levels.{near, fails_at, level_of}
use Rattle.go_scopes_cycles.specs.Ranks.{Place}

abbrev pub rank_at : List ℕ → ℕ → ℕ
rank_at rs n = unwrap_or (slice_get rs n) 0

-- the rank of an object, by those of specifications
abbrev pub rank_by : List ℕ → Declaring → ℕ
rank_by rs x = rank_at rs x.specification

abbrev pub own_bound : ℕ → Bound
own_bound r = record { at_once = r; in_full = r }

-- No specification needs an object of a higher rank than its own.
abbrev pub AreRanks : List ℕ → List ℕ → Package → List Specification → Type 0
AreRanks ks rs p ds = (n : ℕ) (d : Specification) → slice_get ds n ≡ Some d → AllAtMost rs (rank_at ks n) (needed_by_all p d)

-- ---- whether none needs one of a higher rank

-- whether all that the columns below c need at once is at the distance l from the top, or further
abbrev pub low_below : (Place → Option ℕ) → Owner → ℕ → ℕ → Bool
low_below g o l zero = true
low_below g o l (suc c) = low_below g o l c && is_low l (near g (record { file = o.file; source = o.source; column = c }) false)

abbrev pub low_by : (Place → Option ℕ) → Option Owner → ℕ → ℕ → Bool
low_by g None l c = true
low_by g (Some o) l c = low_below g o l c

abbrev pub is_ranked : (Place → Option ℕ) → ℕ → ℕ → Group → Bool
is_ranked g top r x = nat_le r top && low_by g x.root (top - r) x.columns

-- whether the specifications from the number n on need none of a higher rank
abbrev pub are_ranked : (Place → Option ℕ) → ℕ → List ℕ → ℕ → List Group → Bool
are_ranked g top rs n [] = true
are_ranked g top rs n (x ∷ xs) = is_ranked g top (rank_at rs n) x && are_ranked g top rs (suc n) xs

-- ---- levels, each with the greatest rank of one that fails from which it is found

abbrev pub descends : Option ℕ → ℕ → List ℕ → Bool
descends None l gs = false
descends (Some j) l gs = nat_lt j l && nat_le (rank_at gs j) (rank_at gs l)

-- whether an object with a level fails and has no higher rank than the level, or needs one of a lower level
abbrev pub is_lower : Bool → ℕ → Option ℕ → Option ℕ → List ℕ → Bool
is_lower fails r None next gs = true
is_lower fails r (Some l) next gs = (fails && nat_le r (rank_at gs l)) || descends next l gs

abbrev pub is_lower_at : (Place → Option ℕ) → List Levels → List ℕ → List ℕ → List Bool → List Bool → ℕ → Owner → Bool
is_lower_at g ls gs rs bs cs n o =
    is_lower (fails_at bs n || fails_at cs n) (rank_at rs n) (level_of ls n false) (near g o false) gs
    && is_lower (fails_at bs n || fails_at cs n) (rank_at rs n) (level_of ls n true) (near g o true) gs

abbrev pub are_lower : (Place → Option ℕ) → List Levels → List ℕ → List ℕ → List Bool → List Bool → ℕ → List Owner → Bool
are_lower g ls gs rs bs cs n [] = true
are_lower g ls gs rs bs cs n (o ∷ os) = is_lower_at g ls gs rs bs cs n o && are_lower g ls gs rs bs cs (suc n) os

-- ---- which are blocked

abbrev pub is_under : List ℕ → ℕ → ℕ → Option ℕ → Bool
is_under gs most r None = false
is_under gs most r (Some j) = nat_le j most && nat_lt (rank_at gs j) r

-- whether one of the columns below c needs an object with a level that is found from one under the rank r
abbrev pub any_under : (Place → Option ℕ) → List ℕ → ℕ → ℕ → Owner → ℕ → Bool
any_under g gs most r o zero = false
any_under g gs most r o (suc c) = any_under g gs most r o c || is_under gs most r (near g (record { file = o.file; source = o.source; column = c }) false)

abbrev pub all_from : ℕ → List ℕ → List ℕ → Bool
all_from r rs [] = true
all_from r rs (n ∷ ns) = nat_le r (rank_at rs n) && all_from r rs ns

abbrev pub shown_by : (Place → Option ℕ) → List ℕ → ℕ → List ℕ → ℕ → Group → Option Owner → Bool
shown_by g gs most rs r x None = false
shown_by g gs most rs r x (Some o) = all_from r rs x.numbers.items && any_under g gs most r o x.columns

-- whether a specification of the rank r is seen to need an object that fails and has a rank under those of its own
abbrev pub is_shown : (Place → Option ℕ) → List ℕ → ℕ → List ℕ → ℕ → Group → Bool
is_shown g gs most rs r x = shown_by g gs most rs r x x.root

-- the same of the specifications from the number n on, with the ranks ks
abbrev pub shown : (Place → Option ℕ) → List ℕ → ℕ → List ℕ → List ℕ → ℕ → List Group → List Bool
shown g gs most rs ks n [] = []
shown g gs most rs ks n (x ∷ xs) = is_shown g gs most rs (rank_at ks n) x ∷ shown g gs most rs ks (suc n) xs
