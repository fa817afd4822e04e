-- Which objects block the rule of a specification.
use Rattle.std.specs.Prelude.{ℕ, zero, suc, Bool, true, false, ◌&&◌, ◌||◌, not, List, [], ◌∷◌, Option, Some, None, is_some, slice_get}
use Rattle.go_package_defs.specs.Verdicts.{is_in}
use Rattle.go_needs.specs.declared.declaring.Declaring.{Declaring}
use Rattle.go_needs.specs.declared.groups.Group.{Group}
use Rattle.go_needs.specs.declared.needs.Passing.{Passing}
use Rattle.go_needs.specs.declared.owners.Owner.{Owner}
use Rattle.go_needs.specs.Levels.{near, fails_at}
use Rattle.go_scopes_cycles.specs.Ranks.{Place}

abbrev pub passing_of : (Place → Option ℕ) → List Bool → ℕ → Owner → Passing
passing_of g bs n o = record { at_once = fails_at bs n && not (is_some (near g o false)); in_full = fails_at bs n && not (is_some (near g o true)) }

-- whether the objects from the number n on pass with all that they need
abbrev pub passings : (Place → Option ℕ) → List Bool → ℕ → List Owner → List Passing
passings g bs n [] = []
passings g bs n (o ∷ os) = passing_of g bs n o ∷ passings g bs (suc n) os

-- the answer for an object that doesn't pass by itself
abbrev pub not_passing : Passing
not_passing = record { at_once = false; in_full = false }

-- whether one that fails is needed by one of the columns below c
abbrev pub any_below : (Place → Option ℕ) → Owner → ℕ → Bool
any_below g o zero = false
any_below g o (suc c) = any_below g o c || is_some (near g (record { file = o.file; source = o.source; column = c }) false)

abbrev pub any_by : (Place → Option ℕ) → Option Owner → ℕ → Bool
any_by g None c = false
any_by g (Some o) c = any_below g o c

-- whether a specification needs one that fails
abbrev pub any_column : (Place → Option ℕ) → Group → Bool
any_column g x = any_by g x.root x.columns

abbrev pub any_there : (Place → Option ℕ) → Option Group → Bool
any_there g None = false
any_there g (Some x) = any_column g x

-- whether the objects from the number n on are among these
abbrev pub flags_from : List ℕ → ℕ → List Owner → List Bool
flags_from ns n [] = []
flags_from ns n (o ∷ os) = is_in ns n ∷ flags_from ns (suc n) os

-- whether an object blocks: it fails, or, where its own specification doesn't need these, its assignment does
abbrev pub blocks_at : (Place → Option ℕ) → List Group → List Bool → List Bool → List Bool → ℕ → Declaring → Bool
blocks_at g gs own bs cs n x = not (fails_at own n) && (fails_at bs n || (fails_at cs n && not (any_there g (slice_get gs x.specification))))

abbrev pub blocking : (Place → Option ℕ) → List Group → List Bool → List Bool → List Bool → ℕ → List Declaring → List Bool
blocking g gs own bs cs n [] = []
blocking g gs own bs cs n (x ∷ xs) = blocks_at g gs own bs cs n x ∷ blocking g gs own bs cs (suc n) xs
