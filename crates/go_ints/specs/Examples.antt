-- What the operators give, worked out by hand from the Go specification.
use Rattle.std.specs.Prelude.{◌≡◌, ◌^◌, ◌-◌, true, false, Ok, Err, pos, neg_ℤ}
use Rattle.go_ints.specs.declared.kinds.Kind.TheVariants.{Int8, Int16, Int64, Uint8, Uint16, Uint64, Int}
use Rattle.go_ints.specs.declared.operators.Op.TheVariants.{Add, Sub, Mul, Div, Rem, And, Or, Xor, AndNot, Shl, Shr, Min, Max}
use Rattle.go_ints.specs.declared.operators.Trap.TheVariants.{DivideZero, NegativeShift}
use Rattle.go_ints.specs.Wrapping.{wrapped}
use Rattle.go_ints.specs.Kinds.{is_value_of}
use Rattle.go_ints.specs.Arithmetic.{arithmetic}

pub record Examples : Type 0 where
  -- wrapping, and the ends of a kind
  pub wrapped_by_one_round : wrapped 8 true (pos 300) ≡ pos 44
  pub wrapped_below_zero : wrapped 64 false (neg_ℤ (pos 1)) ≡ pos (2 ^ 64 - 1)
  pub least_fits : is_value_of Int16 (neg_ℤ (pos 32768)) ≡ true
  pub one_more_does_not : is_value_of Int16 (pos 32768) ≡ false
  -- sums and differences go round
  pub sum : arithmetic Int8 Add (pos 127) (pos 1) ≡ Ok (neg_ℤ (pos 128))
  pub difference : arithmetic Uint16 Sub (pos 0) (pos 1) ≡ Ok (pos 65535)
  pub product : arithmetic Uint64 Mul (pos (2 ^ 64 - 1)) (pos (2 ^ 64 - 1)) ≡ Ok (pos 1)
  -- the least value has no opposite
  pub least_quotient : arithmetic Int8 Div (neg_ℤ (pos 128)) (neg_ℤ (pos 1)) ≡ Ok (neg_ℤ (pos 128))
  pub least_remainder : arithmetic Int8 Rem (neg_ℤ (pos 128)) (neg_ℤ (pos 1)) ≡ Ok (pos 0)
  -- toward zero, and with the sign of the left operand
  pub quotient : arithmetic Int Div (neg_ℤ (pos 5)) (pos 3) ≡ Ok (neg_ℤ (pos 1))
  pub remainder : arithmetic Int Rem (neg_ℤ (pos 5)) (pos 3) ≡ Ok (neg_ℤ (pos 2))
  pub remainder_by_negative : arithmetic Int Rem (pos 5) (neg_ℤ (pos 3)) ≡ Ok (pos 2)
  -- bits, also of negative numbers
  pub both : arithmetic Int8 And (neg_ℤ (pos 4)) (pos 7) ≡ Ok (pos 4)
  pub either : arithmetic Int8 Or (neg_ℤ (pos 4)) (pos 1) ≡ Ok (neg_ℤ (pos 3))
  pub differing : arithmetic Int16 Xor (neg_ℤ (pos 1)) (pos 3) ≡ Ok (neg_ℤ (pos 4))
  pub lacking : arithmetic Uint8 AndNot (pos 255) (pos 15) ≡ Ok (pos 240)
  -- shifts by the width or more
  pub right_of_negative : arithmetic Int8 Shr (neg_ℤ (pos 1)) (pos 1000) ≡ Ok (neg_ℤ (pos 1))
  pub left_out : arithmetic Uint8 Shl (pos 1) (pos 8) ≡ Ok (pos 0)
  pub left_to_sign : arithmetic Int64 Shl (pos 1) (pos 63) ≡ Ok (neg_ℤ (pos (2 ^ 63)))
  -- the least and the greatest, also of negative numbers
  pub least : arithmetic Int8 Min (neg_ℤ (pos 4)) (pos 3) ≡ Ok (neg_ℤ (pos 4))
  pub greatest : arithmetic Uint64 Max (pos 1) (pos (2 ^ 64 - 1)) ≡ Ok (pos (2 ^ 64 - 1))
  -- traps
  pub divide_zero : arithmetic Int Rem (pos 1) (pos 0) ≡ Err DivideZero
  pub negative_shift : arithmetic Int Shl (pos 1) (neg_ℤ (pos 1)) ≡ Err NegativeShift
