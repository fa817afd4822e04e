-- Operators: their words, and how tightly they bind.
use Rattle.std.specs.Prelude.{ℕ, Bool, true, false, nat_le, Option, Some, None}
use Rattle.go_tokens.specs.declared.token.TokenKind.{TokenKind}
use Rattle.go_tokens.specs.declared.token.TokenKind.TheVariants as token
use Rattle.go_grammar.specs.declared.kind.Arithmetic.{Arithmetic}
use Rattle.go_grammar.specs.declared.kind.Arithmetic.TheVariants as arithmetic
use Rattle.go_grammar.specs.declared.kind.Comparison.{Comparison}
use Rattle.go_grammar.specs.declared.kind.Comparison.TheVariants as comparison
use Rattle.go_grammar.specs.declared.kind.Operator.{Operator}
use Rattle.go_grammar.specs.declared.kind.Operator.TheVariants as operator
use Rattle.go_grammar.specs.declared.kind.Sign.{Sign}
use Rattle.go_grammar.specs.declared.kind.Sign.TheVariants as sign
use Rattle.go_grammar.specs.declared.kind.Step.{Step}
use Rattle.go_grammar.specs.declared.kind.Step.TheVariants as step
use Rattle.go_grammar.specs.declared.kind.Sort.{Sort}
use Rattle.go_grammar.specs.declared.kind.Sort.TheVariants as sort
use Rattle.go_grammar.specs.declared.kind.Level.{Level}
use Rattle.go_grammar.specs.declared.kind.Level.TheVariants as level

abbrev pub arithmetic_word : Arithmetic → TokenKind
arithmetic_word arithmetic.Add = token.Plus
arithmetic_word arithmetic.Subtract = token.Minus
arithmetic_word arithmetic.Or = token.Bar
arithmetic_word arithmetic.Xor = token.Caret
arithmetic_word arithmetic.Multiply = token.Star
arithmetic_word arithmetic.Divide = token.Slash
arithmetic_word arithmetic.Remainder = token.Percent
arithmetic_word arithmetic.ShiftLeft = token.ShiftLeft
arithmetic_word arithmetic.ShiftRight = token.ShiftRight
arithmetic_word arithmetic.And = token.Ampersand
arithmetic_word arithmetic.AndNot = token.AndNot

-- the word of an assignment with the operator
abbrev pub assigning_word : Arithmetic → TokenKind
assigning_word arithmetic.Add = token.PlusAssign
assigning_word arithmetic.Subtract = token.MinusAssign
assigning_word arithmetic.Or = token.BarAssign
assigning_word arithmetic.Xor = token.CaretAssign
assigning_word arithmetic.Multiply = token.StarAssign
assigning_word arithmetic.Divide = token.SlashAssign
assigning_word arithmetic.Remainder = token.PercentAssign
assigning_word arithmetic.ShiftLeft = token.ShiftLeftAssign
assigning_word arithmetic.ShiftRight = token.ShiftRightAssign
assigning_word arithmetic.And = token.AmpersandAssign
assigning_word arithmetic.AndNot = token.AndNotAssign

abbrev pub comparison_word : Comparison → TokenKind
comparison_word comparison.Equal = token.Equal
comparison_word comparison.NotEqual = token.NotEqual
comparison_word comparison.Less = token.Less
comparison_word comparison.LessEqual = token.LessEqual
comparison_word comparison.Greater = token.Greater
comparison_word comparison.GreaterEqual = token.GreaterEqual

abbrev pub operator_word : Operator → TokenKind
operator_word operator.Either = token.LogicalOr
operator_word operator.Both = token.LogicalAnd
operator_word (operator.Compare o) = comparison_word o
operator_word (operator.Compute o) = arithmetic_word o

abbrev pub sign_word : Sign → TokenKind
sign_word sign.Plus = token.Plus
sign_word sign.Minus = token.Minus
sign_word sign.Not = token.Not
sign_word sign.Complement = token.Caret

abbrev pub step_word : Step → TokenKind
step_word step.Increment = token.Increment
step_word step.Decrement = token.Decrement

abbrev pub sort_word : Sort → TokenKind
sort_word sort.Constant = token.Const
sort_word sort.Type = token.Type
sort_word sort.Variable = token.Var

-- The five levels of binary operators, the unary ones, and operands (Operator precedence).
abbrev pub rank : Level → ℕ
rank level.Either = 1
rank level.Both = 2
rank level.Comparison = 3
rank level.Sum = 4
rank level.Product = 5
rank level.Unary = 6
rank level.Primary = 7

abbrev pub arithmetic_level : Arithmetic → Level
arithmetic_level arithmetic.Add = level.Sum
arithmetic_level arithmetic.Subtract = level.Sum
arithmetic_level arithmetic.Or = level.Sum
arithmetic_level arithmetic.Xor = level.Sum
arithmetic_level o = level.Product

abbrev pub operator_level : Operator → Level
operator_level operator.Either = level.Either
operator_level operator.Both = level.Both
operator_level (operator.Compare o) = level.Comparison
operator_level (operator.Compute o) = arithmetic_level o

-- the next tighter level
abbrev pub tighter : Level → Level
tighter level.Either = level.Both
tighter level.Both = level.Comparison
tighter level.Comparison = level.Sum
tighter level.Sum = level.Product
tighter level.Product = level.Unary
tighter l = level.Primary
