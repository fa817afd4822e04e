-- The whole numbers of some bits, signed or not, and the one of them that a whole number wraps to.
use Rattle.std.specs.Prelude.{◌≡◌, ℕ, ◌-◌, ◌*◌, ◌^◌, Bool, true, false, ℤ, pos, neg_ℤ, ◌+ℤ◌, ◌-ℤ◌, ◌≤ℤ◌, ◌⊎◌}
use Rattle.std.specs.Int.{int_rem_euclid}

-- the widths of Go's integers
abbrev pub IsWidth : ℕ → Type 0
IsWidth bits = (bits ≡ 8) ⊎ (bits ≡ 16) ⊎ (bits ≡ 32) ⊎ (bits ≡ 64)

-- the least and the greatest value: two's complement where the bits are signed
abbrev pub least_value : ℕ → Bool → ℤ
least_value bits true = neg_ℤ (pos (2 ^ (bits - 1)))
least_value bits false = pos 0

abbrev pub greatest_value : ℕ → Bool → ℤ
greatest_value bits true = pos (2 ^ (bits - 1) - 1)
greatest_value bits false = pos (2 ^ bits - 1)

abbrev pub InRange : ℕ → Bool → ℤ → Type 0
InRange bits signed z = (least_value bits signed ≤ℤ z) × (z ≤ℤ greatest_value bits signed)

-- x and y differ by a multiple of 2 ^ bits
pub record IsCongruent (bits : ℕ) (x y : ℤ) : Type 0 where
  pub over : ℕ
  pub under : ℕ
  pub differ : x +ℤ pos (over * 2 ^ bits) ≡ y +ℤ pos (under * 2 ^ bits)

-- the value that differs from z by a multiple of 2 ^ bits: what is left of z, counted from the least value up
unfoldable pub wrapped : ℕ → Bool → ℤ → ℤ
wrapped bits signed z = least_value bits signed +ℤ int_rem_euclid (z -ℤ least_value bits signed) (pos (2 ^ bits))
