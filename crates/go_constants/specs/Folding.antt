-- The value of an operation on constants, over unbounded whole numbers.
use Rattle.std.specs.Prelude.{ℕ, ◌^◌, ◌-◌, Bool, true, false, ◌&&◌, ◌||◌, not, if◌then◌else◌, Option, Some, None, Result, Ok, Err, List, ◌++◌, ℤ, pos, neg_ℤ, int_le}
use Rattle.std.specs.Ordering.{nat_cmp, int_cmp, is_eq, is_ne, is_lt, is_le, is_gt, is_ge}
use Rattle.std.specs.Cmp.Lexicographic.{slice_cmp}
use Rattle.std.specs.declared.cmp.Ordering.{Ordering}
use Rattle.go_ints.specs.declared.operators.Op.{Op}
use Rattle.go_ints.specs.declared.operators.Op.TheVariants.{Add, Shl, Shr, Min, Max}
use Rattle.go_ints.specs.declared.operators.Trap.{Trap}
use Rattle.go_ints.specs.declared.operators.Trap.TheVariants as trap
use Rattle.go_ints.specs.Arithmetic.{exact, trap_of}
use Rattle.go_constants.specs.declared.values.Const.{Const}
use Rattle.go_constants.specs.declared.values.Const.TheVariants as const
use Rattle.go_constants.specs.declared.values.ConstOp.{ConstOp}
use Rattle.go_constants.specs.declared.values.ConstOp.TheVariants.{Arith, Eq, Ne, Lt, Le, Gt, Ge, Both, Either}
use Rattle.go_constants.specs.declared.values.ConstFault.{ConstFault}
use Rattle.go_constants.specs.declared.values.ConstFault.TheVariants as fault

-- what a fault refuses, or `None` where memory ran out
abbrev pub refusal_of : ConstFault → Option ConstFault
refusal_of fault.TooWide = Some fault.TooWide
refusal_of fault.DivideZero = Some fault.DivideZero
refusal_of fault.Operands = Some fault.Operands
refusal_of fault.Memory = None

abbrev pub itself : Const → Const
itself c = c

-- an untyped number lies in -2 ^ 127 to 2 ^ 127 - 1
abbrev pub is_untyped_number : ℤ → Bool
is_untyped_number z = int_le (neg_ℤ (pos (2 ^ 127))) z && int_le z (pos (2 ^ 127 - 1))

-- a division by 0 has no value, and a negative count is no operand
abbrev pub trap_fault : Trap → ConstFault
trap_fault trap.DivideZero = fault.DivideZero
trap_fault trap.NegativeShift = fault.Operands

abbrev pub whole_after : Option Trap → ℤ → Result ℤ ConstFault
whole_after (Some t) z = Err (trap_fault t)
whole_after None z = if is_untyped_number z then Ok z else Err fault.TooWide

-- the exact result, or why there is none
abbrev pub whole_result : Op → ℤ → ℤ → Result ℤ ConstFault
whole_result op a b = whole_after (trap_of op b) (exact op a b)

-- the result of a shift is a rune where its left operand is, any other where one operand is
abbrev pub rune_mark : Op → Bool → Bool → Bool
rune_mark Shl left right = left
rune_mark Shr left right = left
rune_mark _ left right = left || right

-- what a comparison says of two values in this order
abbrev pub comparison : ConstOp → Ordering → Result Const ConstFault
comparison Eq order = Ok (const.Bool (is_eq order))
comparison Ne order = Ok (const.Bool (is_ne order))
comparison Lt order = Ok (const.Bool (is_lt order))
comparison Le order = Ok (const.Bool (is_le order))
comparison Gt order = Ok (const.Bool (is_gt order))
comparison Ge order = Ok (const.Bool (is_ge order))
comparison _ order = Err fault.Operands

abbrev pub whole_const : Result ℤ ConstFault → Bool → Result Const ConstFault
whole_const (Ok z) rune = Ok (const.Int z rune)
whole_const (Err e) rune = Err e

abbrev pub folded_wholes : ConstOp → ℤ → Bool → ℤ → Bool → Result Const ConstFault
folded_wholes (Arith op) a left b right = whole_const (whole_result op a b) (rune_mark op left right)
folded_wholes op a left b right = comparison op (int_cmp a b)

abbrev pub same_bool : Bool → Bool → Bool
same_bool true b = b
same_bool false b = not b

abbrev pub folded_bools : ConstOp → Bool → Bool → Result Const ConstFault
folded_bools Eq a b = Ok (const.Bool (same_bool a b))
folded_bools Ne a b = Ok (const.Bool (not (same_bool a b)))
folded_bools Both a b = Ok (const.Bool (a && b))
folded_bools Either a b = Ok (const.Bool (a || b))
folded_bools _ a b = Err fault.Operands

-- the lesser and the greater of two texts, by their bytes
abbrev pub least_text : List ℕ → List ℕ → List ℕ
least_text a b = if is_le (slice_cmp nat_cmp a b) then a else b

abbrev pub greatest_text : List ℕ → List ℕ → List ℕ
greatest_text a b = if is_le (slice_cmp nat_cmp a b) then b else a

-- texts are joined and compared by their bytes
abbrev pub folded_texts : ConstOp → List ℕ → List ℕ → Result Const ConstFault
folded_texts (Arith Add) a b = Ok (const.Text (a ++ b))
folded_texts (Arith Min) a b = Ok (const.Text (least_text a b))
folded_texts (Arith Max) a b = Ok (const.Text (greatest_text a b))
folded_texts (Arith _) a b = Err fault.Operands
folded_texts op a b = comparison op (slice_cmp nat_cmp a b)

abbrev pub folded : ConstOp → Const → Const → Result Const ConstFault
folded op (const.Bool a) (const.Bool b) = folded_bools op a b
folded op (const.Int a left) (const.Int b right) = folded_wholes op a left b right
folded op (const.Text a) (const.Text b) = folded_texts op a b
folded op _ _ = Err fault.Operands

-- to give a text takes memory, and nothing else does
abbrev pub gives_text : ConstOp → Bool
gives_text (Arith Add) = true
gives_text (Arith Min) = true
gives_text (Arith Max) = true
gives_text _ = false

abbrev pub takes_memory : ConstOp → Const → Const → Bool
takes_memory op (const.Text a) (const.Text b) = gives_text op
takes_memory op _ _ = false
