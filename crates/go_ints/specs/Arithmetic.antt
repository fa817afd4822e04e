-- What the operators make of two whole numbers, and of two values of a kind.
use Rattle.std.specs.Prelude.{◌≡◌, ℕ, ◌^◌, Bool, true, false, Option, Some, None, Result, Ok, Err, ℤ, pos, negsuc, ◌+ℤ◌, ◌-ℤ◌, ◌*ℤ◌, unsigned_abs, int_div, int_rem, int_le, if◌then◌else◌}
use Rattle.std.specs.Int.{int_shr}
use Rattle.go_ints.specs.declared.kinds.Kind.{Kind}
use Rattle.go_ints.specs.declared.operators.Op.{Op}
use Rattle.go_ints.specs.declared.operators.Op.TheVariants.{Add, Sub, Mul, Div, Rem, And, Or, Xor, AndNot, Shl, Shr, Min, Max}
use Rattle.go_ints.specs.declared.operators.Trap.{Trap}
use Rattle.go_ints.specs.declared.operators.Trap.TheVariants.{DivideZero, NegativeShift}
use Rattle.go_ints.specs.Bitwise.{bitwise_and, bitwise_or, bitwise_xor, bitwise_and_not}
use Rattle.go_ints.specs.Kinds.{IsValueOf, wrapped_into}

abbrev pub is_shift : Op → Bool
is_shift Shl = true
is_shift Shr = true
is_shift _ = false

-- the result over unbounded whole numbers, where nothing traps: `/` truncates toward zero, `%` has the sign of its
-- left operand, and a shift to the right rounds down
abbrev pub exact : Op → ℤ → ℤ → ℤ
exact Add a b = a +ℤ b
exact Sub a b = a -ℤ b
exact Mul a b = a *ℤ b
exact Div a b = int_div a b
exact Rem a b = int_rem a b
exact And a b = bitwise_and a b
exact Or a b = bitwise_or a b
exact Xor a b = bitwise_xor a b
exact AndNot a b = bitwise_and_not a b
exact Shl a b = a *ℤ pos (2 ^ unsigned_abs b)
exact Shr a b = int_shr a (unsigned_abs b)
exact Min a b = if int_le a b then a else b
exact Max a b = if int_le a b then b else a

-- why an operator has no result at the right operand b
abbrev pub trap_of : Op → ℤ → Option Trap
trap_of Div (pos ℕ.zero) = Some DivideZero
trap_of Rem (pos ℕ.zero) = Some DivideZero
trap_of Shl (negsuc n) = Some NegativeShift
trap_of Shr (negsuc n) = Some NegativeShift
trap_of _ _ = None

-- the exact result, wrapped into the kind, or the trap
abbrev pub arithmetic_after : Option Trap → Kind → ℤ → Result ℤ Trap
arithmetic_after (Some t) kind z = Err t
arithmetic_after None kind z = Ok (wrapped_into kind z)

abbrev pub arithmetic : Kind → Op → ℤ → ℤ → Result ℤ Trap
arithmetic kind op a b = arithmetic_after (trap_of op b) kind (exact op a b)

-- a is a value of the kind, and so is b where it is no count of a shift
abbrev pub AreOperands : Kind → Op → ℤ → ℤ → Type 0
AreOperands kind op a b = IsValueOf kind a × (is_shift op ≡ false → IsValueOf kind b)
