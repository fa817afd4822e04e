-- The values of literals as calls answer them (Go specification: Constants, Integer literals).
use Rattle.std.specs.Prelude.{ℕ, ℤ, pos, ◌+◌, ◌*◌, ◌^◌, ◌==◌, nat_lt, if◌then◌else◌, Option, Some, None}
use Rattle.std.specs.Char.{digit_value}

-- a number below a limit
abbrev pub below : ℕ → ℕ → Option ℕ
below limit n = if nat_lt n limit then Some n else None

-- The value of an untyped constant, where it is not too great for one.
abbrev pub constant_value : ℕ → Option ℤ
constant_value n = if nat_lt n (2 ^ 127) then Some (pos n) else None

-- a number with one more digit behind it, where `_` is none
abbrev pub with_digit : ℕ → ℕ → ℕ → ℕ
with_digit base n x = if x == 95 then n else n * base + digit_value x
