-- The locals that tokens name, as numbers: 0 for none, and otherwise the number after that of the local.
use Rattle.std.specs.Prelude.{◌≡◌, ℕ, zero, suc, Option, Some, None, refl}

abbrev pub named : ℕ → Option ℕ
named zero = None
named (suc n) = Some n

abbrev pub number_of : Option ℕ → ℕ
number_of None = zero
number_of (Some n) = suc n

abbrev pub numbered_again : (n : ℕ) → number_of (named n) ≡ n
numbered_again zero = refl
numbered_again (suc n) = refl
