-- Words of the laws on other numbers for functions.
use Rattle.std.specs.Prelude.{◌≡◌, ℕ, List}
use Rattle.go_meaning.specs.Values.{Value}
use Rattle.go_meaning.specs.Computations.{World}
use Rattle.go_meaning.specs.Operations.{Operation, perform}
use Rattle.go_meaning.specs.Meaning.{Program}
use Rattle.go_meaning_simulation.specs.Mates.{AreMatched}
use Rattle.go_meaning_numbers.specs.Moved.{moved, world_moved, deed_moved}

-- the second values are the first ones with the function numbers of s
abbrev pub Moves : (ℕ → ℕ) → List Value → List Value → Type 0
Moves s vs vs' = vs' ≡ moved s vs

-- An operation on values and a world with other function numbers gives what it gives, with those numbers.
abbrev pub CommutesWith : (ℕ → ℕ) → Operation → Type 0
CommutesWith s o = (vs : List Value) (w : World) → perform o (moved s vs) (world_moved s w) ≡ deed_moved s (perform o vs w)

-- The function g of P is s g in Q: their bodies are kin, where a function value has the number of s.
abbrev pub AreNumberedAnew : (ℕ → ℕ) → Program → Program → Type 0
AreNumberedAnew s P Q = AreMatched (Moves s) P Q (λ g g'. g' ≡ s g)
