-- What each kind of integer is: its bits, its sign and its range.
use Rattle.std.specs.Prelude.{◌&&◌, int_le, ◌≡◌, ◌↔◌, ℕ, ◌^◌, Bool, true, false, ℤ, pos, neg_ℤ, ◌≤ℤ◌, ◌<ℤ◌}
use Rattle.go_ints.specs.declared.kinds.Kind.{Kind}
use Rattle.go_ints.specs.declared.kinds.Kind.TheVariants.{Int8, Int16, Int32, Int64, Uint8, Uint16, Uint32, Uint64, Int, Uint}
use Rattle.go_ints.specs.declared.kinds.Layout.{Layout}
use Rattle.go_ints.specs.Wrapping.{least_value, greatest_value, InRange, wrapped}

abbrev pub bits_of : Kind → ℕ
bits_of Int8 = 8
bits_of Int16 = 16
bits_of Int32 = 32
bits_of Int64 = 64
bits_of Uint8 = 8
bits_of Uint16 = 16
bits_of Uint32 = 32
bits_of Uint64 = 64
bits_of Int = 64
bits_of Uint = 64

abbrev pub is_signed : Kind → Bool
is_signed Int8 = true
is_signed Int16 = true
is_signed Int32 = true
is_signed Int64 = true
is_signed Uint8 = false
is_signed Uint16 = false
is_signed Uint32 = false
is_signed Uint64 = false
is_signed Int = true
is_signed Uint = false

-- z is a value of the kind
abbrev pub IsValueOf : Kind → ℤ → Type 0
IsValueOf kind z = InRange (bits_of kind) (is_signed kind) z

-- the same as a test
abbrev pub is_value_of : Kind → ℤ → Bool
is_value_of kind z = int_le (least_value (bits_of kind) (is_signed kind)) z && int_le z (greatest_value (bits_of kind) (is_signed kind))

-- z is a value of some kind
abbrev pub IsWord : ℤ → Type 0
IsWord z = (neg_ℤ (pos (2 ^ 63)) ≤ℤ z) × (z <ℤ pos (2 ^ 64))

-- the value of the kind that z wraps to
abbrev pub wrapped_into : Kind → ℤ → ℤ
wrapped_into kind z = wrapped (bits_of kind) (is_signed kind) z

abbrev pub layout_of : Kind → Layout
layout_of kind = record {
  bits = bits_of kind;
  signed = is_signed kind;
  least = least_value (bits_of kind) (is_signed kind);
  greatest = greatest_value (bits_of kind) (is_signed kind);
}

-- wrapping at the row's bits and sign leaves alone the values from its least to its greatest
abbrev pub IsLayout : Layout → Type 0
IsLayout row = (z : ℤ) → (wrapped row.bits row.signed z ≡ z) ↔ ((row.least ≤ℤ z) × (z ≤ℤ row.greatest))
