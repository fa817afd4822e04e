-- Numbers that say from when on objects are known, as the program holds them.
use Rattle.std.specs.Prelude.{ℕ, suc, Bool, true, false, ◌&&◌, nat_le, List, [], ◌∷◌, slice_get, unwrap_or}
use Rattle.go_tree.specs.declared.object.Declared.{Declared}
use Rattle.go_package_defs.specs.Knowledge.{is_type}
use Rattle.go_package_laws.specs.Ranks.{Ranks}
use Rattle.go_package_stages.specs.declared.numbers.Numbers.{Numbers}

abbrev pub number_at : List ℕ → ℕ → ℕ
number_at ns n = unwrap_or (slice_get ns n) 0

abbrev pub ranks_in : Numbers → Ranks
ranks_in x = record { stand = number_at x.stands.items; told = number_at x.told.items; own = number_at x.own.items; reach = number_at x.reach.items }

-- whether none is above k
abbrev pub at_most : ℕ → List ℕ → Bool
at_most k [] = true
at_most k (n ∷ ns) = nat_le n k && at_most k ns

-- whether a type's right side is known where those are that it reaches
abbrev pub told_if : Bool → ℕ → ℕ → Bool
told_if true n k = nat_le n k
told_if false n k = true

-- of the object n, in front of which there are u types
abbrev pub is_told_at : Numbers → ℕ → ℕ → Declared → Bool
is_told_at x n u d = told_if (is_type d.entity) (number_at x.told.items n) (number_at x.reach.items u)

-- how many types there are up to an object
abbrev pub next_type : Bool → ℕ → ℕ
next_type true u = suc u
next_type false u = u

-- those of the objects from the number n on, in front of which there are u types
abbrev pub types_told : Numbers → ℕ → ℕ → List Declared → Bool
types_told x n u [] = true
types_told x n u (d ∷ ds) = is_told_at x n u d && types_told x (suc n) (next_type (is_type d.entity) u) ds
