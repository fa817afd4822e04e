-- Circles of names, by which a declaration needs itself.
use Rattle.std.specs.Prelude.{ℕ, Bool, false, ◌&&◌, nat_le, List, [], ◌∷◌, length, slice_get, Option, Some, None}
use Rattle.go_tree.specs.Declarations.{Found}
use Rattle.go_tree.specs.Lookups.{Asked}
use Rattle.go_tree.specs.Needs.{Needed, is_same}
use Rattle.go_scopes_cycles.specs.Needs.{needed_by}

-- the declaration that a name calls for, where the other one needs it
abbrev pub needed_at : Option Asked → Option Needed → Option Needed
needed_at None x = None
needed_at (Some a) None = None
needed_at (Some a) (Some x) = needed_by a x

-- one step of a walk, along the name of the number n
abbrev pub step : List Asked → Option Needed → ℕ → Option Needed
step asks x n = needed_at (slice_get asks n) x

-- where a walk along names ends
abbrev pub walked : List Asked → Option Needed → List ℕ → Option Needed
walked asks x [] = x
walked asks x (n ∷ ns) = walked asks (step asks x n) ns

abbrev pub comes_back : Found → Option Needed → Bool
comes_back d None = false
comes_back d (Some x) = is_same d x.it

-- whether a walk along the names leads from the declaration, needed in part, to itself, by way of at most k others
abbrev pub is_circle : List Asked → ℕ → Found → List ℕ → Bool
is_circle asks k d [] = false
is_circle asks k d (n ∷ ns) = nat_le (length ns) k && comes_back d (walked asks (Some (record { it = d; full = false })) (n ∷ ns))
