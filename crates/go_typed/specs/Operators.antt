-- What the operators of a file do with whole numbers.
use Rattle.go_ints.specs.declared.operators.Op.{Op}
use Rattle.go_ints.specs.declared.operators.Op.TheVariants as op
use Rattle.go_grammar.specs.declared.kind.Arithmetic.{Arithmetic}
use Rattle.go_grammar.specs.declared.kind.Arithmetic.TheVariants as arithmetic

abbrev pub op_of : Arithmetic → Op
op_of arithmetic.Add = op.Add
op_of arithmetic.Subtract = op.Sub
op_of arithmetic.Or = op.Or
op_of arithmetic.Xor = op.Xor
op_of arithmetic.Multiply = op.Mul
op_of arithmetic.Divide = op.Div
op_of arithmetic.Remainder = op.Rem
op_of arithmetic.ShiftLeft = op.Shl
op_of arithmetic.ShiftRight = op.Shr
op_of arithmetic.And = op.And
op_of arithmetic.AndNot = op.AndNot
