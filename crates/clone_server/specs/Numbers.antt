-- Whole numbers in words: digits alone, of which the first is no 0.
use Rattle.std.specs.Prelude.{ℕ, ◌+◌, ◌*◌, ◌-◌, ◌&&◌, nat_le, List, [], ◌∷◌, Option, Some, None, codes, if◌then◌else◌}
use Rattle.std.specs.Str.{bytes_eq}
use Rattle.go_base.specs.Optional.{◌>>=◌}

-- the number with one more digit, if that is a digit and the number is from 1 to the limit
unfoldable pub next_number : ℕ → ℕ → ℕ → Option ℕ
next_number most n b =
    if nat_le 48 b && nat_le b 57 then (if nat_le 1 (n * 10 + (b - 48)) && nat_le (n * 10 + (b - 48)) most then Some (n * 10 + (b - 48)) else None) else None

-- the number whose digits so far write n, with the rest of its digits
unfoldable pub number_from : ℕ → ℕ → List ℕ → Option ℕ
number_from most n [] = Some n
number_from most n (b ∷ bs) = next_number most n b >>= λ m. number_from most m bs

-- the number that the bytes write, from 1 to the limit
abbrev pub whole_number : ℕ → List ℕ → Option ℕ
whole_number most [] = None
whole_number most (b ∷ bs) = number_from most 0 (b ∷ bs)

-- the number that they write, from 0 to the limit
abbrev pub whole_or_zero : ℕ → List ℕ → Option ℕ
whole_or_zero most bytes = if bytes_eq bytes (codes "0") then Some 0 else whole_number most bytes
