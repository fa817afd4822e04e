-- What the forms of nodes are: their kinds by number, operators by number, and how much they weigh.
use Rattle.std.specs.Prelude.{ℕ, true, false}
use Rattle.go_grammar.specs.declared.kind.Arithmetic.{Arithmetic}
use Rattle.go_grammar.specs.declared.kind.Arithmetic.TheVariants as arithmetic
use Rattle.go_grammar.specs.declared.kind.Comparison.{Comparison}
use Rattle.go_grammar.specs.declared.kind.Comparison.TheVariants as comparison
use Rattle.go_grammar.specs.declared.kind.Operator.{Operator}
use Rattle.go_grammar.specs.declared.kind.Operator.TheVariants as operator
use Rattle.go_grammar.specs.declared.kind.Sign.{Sign}
use Rattle.go_grammar.specs.declared.kind.Sign.TheVariants as sign
use Rattle.go_grammar.specs.declared.kind.Step.{Step}
use Rattle.go_grammar.specs.declared.kind.Step.TheVariants as step
use Rattle.go_tree.specs.declared.object.Predeclared.{Predeclared}
use Rattle.go_tree.specs.declared.object.Predeclared.TheVariants as predeclared
use Rattle.go_typed.specs.declared.form.Form.{Form}
use Rattle.go_typed.specs.declared.form.Form.TheVariants as form
use Rattle.go_typed.specs.declared.form.Referent.{Referent}
use Rattle.go_typed.specs.declared.form.Referent.TheVariants as referent
use Rattle.clone_window.specs.declared.outline.Outline.{Outline}

-- the number of an operator in Go's list of operators and punctuation, from 1
abbrev pub arithmetic_number : Arithmetic → ℕ
arithmetic_number arithmetic.Add = 1
arithmetic_number arithmetic.Subtract = 2
arithmetic_number arithmetic.Multiply = 3
arithmetic_number arithmetic.Divide = 4
arithmetic_number arithmetic.Remainder = 5
arithmetic_number arithmetic.And = 6
arithmetic_number arithmetic.Or = 7
arithmetic_number arithmetic.Xor = 8
arithmetic_number arithmetic.ShiftLeft = 9
arithmetic_number arithmetic.ShiftRight = 10
arithmetic_number arithmetic.AndNot = 11

-- of an operator that also assigns, as `+=`
abbrev pub assigning_number : Arithmetic → ℕ
assigning_number arithmetic.Add = 12
assigning_number arithmetic.Subtract = 13
assigning_number arithmetic.Multiply = 14
assigning_number arithmetic.Divide = 15
assigning_number arithmetic.Remainder = 16
assigning_number arithmetic.And = 17
assigning_number arithmetic.Or = 18
assigning_number arithmetic.Xor = 19
assigning_number arithmetic.ShiftLeft = 20
assigning_number arithmetic.ShiftRight = 21
assigning_number arithmetic.AndNot = 22

abbrev pub step_number : Step → ℕ
step_number step.Increment = 25
step_number step.Decrement = 26

abbrev pub comparison_number : Comparison → ℕ
comparison_number comparison.Equal = 27
comparison_number comparison.NotEqual = 28
comparison_number comparison.Less = 29
comparison_number comparison.LessEqual = 31
comparison_number comparison.Greater = 30
comparison_number comparison.GreaterEqual = 32

abbrev pub operator_number : Operator → ℕ
operator_number operator.Both = 23
operator_number operator.Either = 24
operator_number (operator.Compare c) = comparison_number c
operator_number (operator.Compute a) = arithmetic_number a

abbrev pub sign_number : Sign → ℕ
sign_number sign.Plus = 1
sign_number sign.Minus = 2
sign_number sign.Not = 34
sign_number sign.Complement = 8

abbrev pub predeclared_number : Predeclared → ℕ
predeclared_number predeclared.Bool = 0
predeclared_number predeclared.String = 1
predeclared_number predeclared.Int = 2
predeclared_number predeclared.Int8 = 3
predeclared_number predeclared.Int16 = 4
predeclared_number predeclared.Int32 = 5
predeclared_number predeclared.Int64 = 6
predeclared_number predeclared.Uint = 7
predeclared_number predeclared.Uint8 = 8
predeclared_number predeclared.Uint16 = 9
predeclared_number predeclared.Uint32 = 10
predeclared_number predeclared.Uint64 = 11
predeclared_number predeclared.Byte = 12
predeclared_number predeclared.Rune = 13
predeclared_number predeclared.True = 14
predeclared_number predeclared.False = 15
predeclared_number predeclared.Iota = 16
predeclared_number predeclared.Nil = 17
predeclared_number predeclared.Append = 18
predeclared_number predeclared.Cap = 19
predeclared_number predeclared.Copy = 20
predeclared_number predeclared.Len = 21
predeclared_number predeclared.Make = 22
predeclared_number predeclared.Max = 23
predeclared_number predeclared.Min = 24
predeclared_number predeclared.Panic = 25

abbrev pub outlined : ℕ → ℕ → ℕ → Outline
outlined kind operator count = record { kind = kind; operator = operator; count = count }

-- a name of the package or of the universe: what sort of object it means, and which of these
abbrev pub referent_outline : Referent → Outline
referent_outline (referent.Constant n) = outlined 32 1 n
referent_outline (referent.Type n) = outlined 32 2 n
referent_outline (referent.Variable n) = outlined 32 3 n
referent_outline (referent.Function n) = outlined 32 4 n
referent_outline (referent.Predeclared p) = outlined 32 5 (predeclared_number p)
referent_outline referent.Println = outlined 32 6 0

-- What a node shows by itself, but for which local it names and what it stands for: the number of its kind, the number of its
-- operator, and a count. The count says how many parts are of a sort, which field or object is named, and whether a local is
-- used (0), declared by `:=` or a range clause (1) or declared otherwise (2). Kinds from 50 on weigh nothing.
abbrev pub outline : Form → Outline
outline form.Expression = outlined 1 0 0
outline (form.Step s) = outlined 2 (step_number s) 0
outline (form.Assign n) = outlined 4 0 n
outline (form.Operate a) = outlined 5 (assigning_number a) 0
outline (form.Define n) = outlined 6 0 n
outline form.Variables = outlined 7 0 0
outline form.Constants = outlined 8 0 0
outline form.TypeNames = outlined 9 0 0
outline form.Return = outlined 10 0 0
outline form.Break = outlined 11 0 0
outline form.Continue = outlined 12 0 0
outline form.Fallthrough = outlined 13 0 0
outline form.Block = outlined 14 0 0
outline form.If = outlined 15 0 0
outline form.Switch = outlined 16 0 0
outline (form.Case n) = outlined 17 0 n
outline form.Default = outlined 18 0 0
outline form.For = outlined 19 0 0
outline (form.Range false n) = outlined 20 0 n
outline (form.Range true n) = outlined 21 0 n
outline (form.Local n) = outlined 31 0 0
outline (form.New n) = outlined 31 0 1
outline (form.Declared n) = outlined 31 0 2
outline (form.Object r) = referent_outline r
outline form.Blank = outlined 33 0 0
outline form.Literal = outlined 34 0 0
outline form.Parenthesized = outlined 35 0 0
outline (form.Selector n) = outlined 36 0 n
outline form.Index = outlined 37 0 0
outline form.Slice = outlined 38 0 0
outline form.Call = outlined 39 0 0
outline form.Conversion = outlined 40 0 0
outline form.Composite = outlined 41 0 0
outline (form.Unary s) = outlined 42 (sign_number s) 0
outline (form.Binary o) = outlined 43 (operator_number o) 0
outline (form.Specified n) = outlined 50 0 n
outline (form.Keyed n) = outlined 51 0 n
outline form.Type = outlined 52 0 0
outline form.Function = outlined 53 0 0
outline (form.Held k) = outlined 54 0 0
