-- All tokens, kinds and categories in a row, so that what holds of each can be computed.
use Rattle.std.proofs.Common.{◌≡◌, ℕ, zero, suc, Bool, true, false, List, [], ◌∷◌, Option, Some, None, refl, sym, ap, ◌∙◌, arith}
use Rattle.std.specs.Prelude.{slice_get, ◌&&◌, nat_eq}
use Rattle.go_tokens.specs.declared.token.TokenKind.{TokenKind}
use Rattle.go_tokens.specs.declared.token.TokenKind.TheVariants as token
use Rattle.go_grammar.specs.declared.kind.Arithmetic.{Arithmetic}
use Rattle.go_grammar.specs.declared.kind.Arithmetic.TheVariants as arithmetic
use Rattle.go_grammar.specs.declared.kind.Comparison.{Comparison}
use Rattle.go_grammar.specs.declared.kind.Comparison.TheVariants as comparison
use Rattle.go_grammar.specs.declared.kind.Operator.{Operator}
use Rattle.go_grammar.specs.declared.kind.Operator.TheVariants as operator
use Rattle.go_grammar.specs.declared.kind.Sign.{Sign}
use Rattle.go_grammar.specs.declared.kind.Sign.TheVariants as sign
use Rattle.go_grammar.specs.declared.kind.Step.{Step}
use Rattle.go_grammar.specs.declared.kind.Step.TheVariants as step
use Rattle.go_grammar.specs.declared.kind.Sort.{Sort}
use Rattle.go_grammar.specs.declared.kind.Sort.TheVariants as sort
use Rattle.go_grammar.specs.declared.kind.Level.{Level}
use Rattle.go_grammar.specs.declared.kind.Level.TheVariants as level
use Rattle.go_grammar.specs.declared.kind.Place.{Place}
use Rattle.go_grammar.specs.declared.kind.Place.TheVariants as place
use Rattle.go_grammar.specs.declared.kind.Kind.{Kind}
use Rattle.go_grammar.specs.declared.kind.Kind.TheVariants as kind
use Rattle.go_grammar.specs.declared.kind.Category.{Category}
use Rattle.go_grammar.specs.declared.kind.Category.TheVariants as category

abbrev pub all : {A : Type 0} → (A → Bool) → List A → Bool
all f [] = true
all f (x ∷ xs) = f x && all f xs

abbrev pub tokens : List TokenKind
tokens =
    token.Identifier ∷ token.Integer ∷ token.Rune ∷ token.Text ∷ token.Break ∷ token.Case ∷
    token.Chan ∷ token.Const ∷ token.Continue ∷ token.Default ∷ token.Defer ∷ token.Else ∷
    token.Fallthrough ∷ token.For ∷ token.Func ∷ token.Go ∷ token.Goto ∷ token.If ∷
    token.Import ∷ token.Interface ∷ token.Map ∷ token.Package ∷ token.Range ∷ token.Return ∷
    token.Select ∷ token.Struct ∷ token.Switch ∷ token.Type ∷ token.Var ∷ token.Plus ∷
    token.Minus ∷ token.Star ∷ token.Slash ∷ token.Percent ∷ token.Ampersand ∷ token.Bar ∷
    token.Caret ∷ token.ShiftLeft ∷ token.ShiftRight ∷ token.AndNot ∷ token.PlusAssign ∷ token.MinusAssign ∷
    token.StarAssign ∷ token.SlashAssign ∷ token.PercentAssign ∷ token.AmpersandAssign ∷ token.BarAssign ∷ token.CaretAssign ∷
    token.ShiftLeftAssign ∷ token.ShiftRightAssign ∷ token.AndNotAssign ∷ token.LogicalAnd ∷ token.LogicalOr ∷ token.Increment ∷
    token.Decrement ∷ token.Equal ∷ token.NotEqual ∷ token.Less ∷ token.LessEqual ∷ token.Greater ∷
    token.GreaterEqual ∷ token.Assign ∷ token.Not ∷ token.Define ∷ token.LeftParenthesis ∷ token.RightParenthesis ∷
    token.LeftBracket ∷ token.RightBracket ∷ token.LeftBrace ∷ token.RightBrace ∷ token.Comma ∷ token.Semicolon ∷
    token.Period ∷ token.Colon ∷ []

abbrev pub token_number : TokenKind → ℕ
token_number token.Identifier = 0
token_number token.Integer = 1
token_number token.Rune = 2
token_number token.Text = 3
token_number token.Break = 4
token_number token.Case = 5
token_number token.Chan = 6
token_number token.Const = 7
token_number token.Continue = 8
token_number token.Default = 9
token_number token.Defer = 10
token_number token.Else = 11
token_number token.Fallthrough = 12
token_number token.For = 13
token_number token.Func = 14
token_number token.Go = 15
token_number token.Goto = 16
token_number token.If = 17
token_number token.Import = 18
token_number token.Interface = 19
token_number token.Map = 20
token_number token.Package = 21
token_number token.Range = 22
token_number token.Return = 23
token_number token.Select = 24
token_number token.Struct = 25
token_number token.Switch = 26
token_number token.Type = 27
token_number token.Var = 28
token_number token.Plus = 29
token_number token.Minus = 30
token_number token.Star = 31
token_number token.Slash = 32
token_number token.Percent = 33
token_number token.Ampersand = 34
token_number token.Bar = 35
token_number token.Caret = 36
token_number token.ShiftLeft = 37
token_number token.ShiftRight = 38
token_number token.AndNot = 39
token_number token.PlusAssign = 40
token_number token.MinusAssign = 41
token_number token.StarAssign = 42
token_number token.SlashAssign = 43
token_number token.PercentAssign = 44
token_number token.AmpersandAssign = 45
token_number token.BarAssign = 46
token_number token.CaretAssign = 47
token_number token.ShiftLeftAssign = 48
token_number token.ShiftRightAssign = 49
token_number token.AndNotAssign = 50
token_number token.LogicalAnd = 51
token_number token.LogicalOr = 52
token_number token.Increment = 53
token_number token.Decrement = 54
token_number token.Equal = 55
token_number token.NotEqual = 56
token_number token.Less = 57
token_number token.LessEqual = 58
token_number token.Greater = 59
token_number token.GreaterEqual = 60
token_number token.Assign = 61
token_number token.Not = 62
token_number token.Define = 63
token_number token.LeftParenthesis = 64
token_number token.RightParenthesis = 65
token_number token.LeftBracket = 66
token_number token.RightBracket = 67
token_number token.LeftBrace = 68
token_number token.RightBrace = 69
token_number token.Comma = 70
token_number token.Semicolon = 71
token_number token.Period = 72
token_number token.Colon = 73

pub token_listed : (x : TokenKind) → slice_get tokens (token_number x) ≡ Some x
token_listed token.Identifier = refl
token_listed token.Integer = refl
token_listed token.Rune = refl
token_listed token.Text = refl
token_listed token.Break = refl
token_listed token.Case = refl
token_listed token.Chan = refl
token_listed token.Const = refl
token_listed token.Continue = refl
token_listed token.Default = refl
token_listed token.Defer = refl
token_listed token.Else = refl
token_listed token.Fallthrough = refl
token_listed token.For = refl
token_listed token.Func = refl
token_listed token.Go = refl
token_listed token.Goto = refl
token_listed token.If = refl
token_listed token.Import = refl
token_listed token.Interface = refl
token_listed token.Map = refl
token_listed token.Package = refl
token_listed token.Range = refl
token_listed token.Return = refl
token_listed token.Select = refl
token_listed token.Struct = refl
token_listed token.Switch = refl
token_listed token.Type = refl
token_listed token.Var = refl
token_listed token.Plus = refl
token_listed token.Minus = refl
token_listed token.Star = refl
token_listed token.Slash = refl
token_listed token.Percent = refl
token_listed token.Ampersand = refl
token_listed token.Bar = refl
token_listed token.Caret = refl
token_listed token.ShiftLeft = refl
token_listed token.ShiftRight = refl
token_listed token.AndNot = refl
token_listed token.PlusAssign = refl
token_listed token.MinusAssign = refl
token_listed token.StarAssign = refl
token_listed token.SlashAssign = refl
token_listed token.PercentAssign = refl
token_listed token.AmpersandAssign = refl
token_listed token.BarAssign = refl
token_listed token.CaretAssign = refl
token_listed token.ShiftLeftAssign = refl
token_listed token.ShiftRightAssign = refl
token_listed token.AndNotAssign = refl
token_listed token.LogicalAnd = refl
token_listed token.LogicalOr = refl
token_listed token.Increment = refl
token_listed token.Decrement = refl
token_listed token.Equal = refl
token_listed token.NotEqual = refl
token_listed token.Less = refl
token_listed token.LessEqual = refl
token_listed token.Greater = refl
token_listed token.GreaterEqual = refl
token_listed token.Assign = refl
token_listed token.Not = refl
token_listed token.Define = refl
token_listed token.LeftParenthesis = refl
token_listed token.RightParenthesis = refl
token_listed token.LeftBracket = refl
token_listed token.RightBracket = refl
token_listed token.LeftBrace = refl
token_listed token.RightBrace = refl
token_listed token.Comma = refl
token_listed token.Semicolon = refl
token_listed token.Period = refl
token_listed token.Colon = refl

abbrev pub kinds : List Kind
kinds =
    kind.File ∷ kind.Imports ∷ kind.Import ∷ kind.ImportPath ∷ kind.ImportGroup ∷ (kind.Declaration sort.Constant) ∷
    (kind.Declaration sort.Type) ∷ (kind.Declaration sort.Variable) ∷ (kind.Group sort.Constant) ∷ (kind.Group sort.Type) ∷ (kind.Group sort.Variable) ∷ (kind.Specification sort.Constant) ∷
    (kind.Specification sort.Type) ∷ (kind.Specification sort.Variable) ∷ kind.NameList ∷ kind.DeclaredName ∷ kind.TypedValues ∷ kind.Values ∷
    kind.FunctionDeclaration ∷ kind.Signature ∷ kind.Parameters ∷ kind.Parameter ∷ kind.Results ∷ kind.ParenthesizedType ∷
    kind.SequenceType ∷ kind.FunctionType ∷ kind.StructType ∷ kind.Fields ∷ kind.Name ∷ kind.Integer ∷
    kind.Rune ∷ kind.Text ∷ kind.Parenthesized ∷ (kind.Unary sign.Plus) ∷ (kind.Unary sign.Minus) ∷ (kind.Unary sign.Not) ∷
    (kind.Unary sign.Complement) ∷ (kind.Binary operator.Either) ∷ (kind.Binary operator.Both) ∷ (kind.Binary (operator.Compare comparison.Equal)) ∷ (kind.Binary (operator.Compare comparison.NotEqual)) ∷ (kind.Binary (operator.Compare comparison.Less)) ∷
    (kind.Binary (operator.Compare comparison.LessEqual)) ∷ (kind.Binary (operator.Compare comparison.Greater)) ∷ (kind.Binary (operator.Compare comparison.GreaterEqual)) ∷ (kind.Binary (operator.Compute arithmetic.Add)) ∷ (kind.Binary (operator.Compute arithmetic.Subtract)) ∷ (kind.Binary (operator.Compute arithmetic.Or)) ∷
    (kind.Binary (operator.Compute arithmetic.Xor)) ∷ (kind.Binary (operator.Compute arithmetic.Multiply)) ∷ (kind.Binary (operator.Compute arithmetic.Divide)) ∷ (kind.Binary (operator.Compute arithmetic.Remainder)) ∷ (kind.Binary (operator.Compute arithmetic.ShiftLeft)) ∷ (kind.Binary (operator.Compute arithmetic.ShiftRight)) ∷
    (kind.Binary (operator.Compute arithmetic.And)) ∷ (kind.Binary (operator.Compute arithmetic.AndNot)) ∷ kind.Selector ∷ kind.Bracketed ∷ kind.Bounds ∷ kind.BoundsFrom ∷
    kind.Call ∷ kind.Composite ∷ kind.LiteralValue ∷ kind.Keyed ∷ kind.ExpressionList ∷ kind.Block ∷
    kind.Return ∷ kind.Break ∷ kind.Continue ∷ kind.Fallthrough ∷ kind.ExpressionStatement ∷ (kind.StepStatement step.Increment) ∷
    (kind.StepStatement step.Decrement) ∷ kind.Targets ∷ kind.NewNames ∷ kind.Assignment ∷ (kind.OperatorAssignment arithmetic.Add) ∷ (kind.OperatorAssignment arithmetic.Subtract) ∷
    (kind.OperatorAssignment arithmetic.Or) ∷ (kind.OperatorAssignment arithmetic.Xor) ∷ (kind.OperatorAssignment arithmetic.Multiply) ∷ (kind.OperatorAssignment arithmetic.Divide) ∷ (kind.OperatorAssignment arithmetic.Remainder) ∷ (kind.OperatorAssignment arithmetic.ShiftLeft) ∷
    (kind.OperatorAssignment arithmetic.ShiftRight) ∷ (kind.OperatorAssignment arithmetic.And) ∷ (kind.OperatorAssignment arithmetic.AndNot) ∷ kind.Define ∷ kind.If ∷ kind.Else ∷
    kind.LateCondition ∷ kind.InitializedCondition ∷ kind.Switch ∷ kind.LateTag ∷ kind.InitializedTag ∷ kind.Case ∷
    kind.Default ∷ kind.For ∷ kind.ForClause ∷ kind.InitializedForClause ∷ kind.Range ∷ kind.AssigningRange ∷
    kind.DefiningRange ∷ []

abbrev pub kind_number : Kind → ℕ
kind_number kind.File = 0
kind_number kind.Imports = 1
kind_number kind.Import = 2
kind_number kind.ImportPath = 3
kind_number kind.ImportGroup = 4
kind_number (kind.Declaration sort.Constant) = 5
kind_number (kind.Declaration sort.Type) = 6
kind_number (kind.Declaration sort.Variable) = 7
kind_number (kind.Group sort.Constant) = 8
kind_number (kind.Group sort.Type) = 9
kind_number (kind.Group sort.Variable) = 10
kind_number (kind.Specification sort.Constant) = 11
kind_number (kind.Specification sort.Type) = 12
kind_number (kind.Specification sort.Variable) = 13
kind_number kind.NameList = 14
kind_number kind.DeclaredName = 15
kind_number kind.TypedValues = 16
kind_number kind.Values = 17
kind_number kind.FunctionDeclaration = 18
kind_number kind.Signature = 19
kind_number kind.Parameters = 20
kind_number kind.Parameter = 21
kind_number kind.Results = 22
kind_number kind.ParenthesizedType = 23
kind_number kind.SequenceType = 24
kind_number kind.FunctionType = 25
kind_number kind.StructType = 26
kind_number kind.Fields = 27
kind_number kind.Name = 28
kind_number kind.Integer = 29
kind_number kind.Rune = 30
kind_number kind.Text = 31
kind_number kind.Parenthesized = 32
kind_number (kind.Unary sign.Plus) = 33
kind_number (kind.Unary sign.Minus) = 34
kind_number (kind.Unary sign.Not) = 35
kind_number (kind.Unary sign.Complement) = 36
kind_number (kind.Binary operator.Either) = 37
kind_number (kind.Binary operator.Both) = 38
kind_number (kind.Binary (operator.Compare comparison.Equal)) = 39
kind_number (kind.Binary (operator.Compare comparison.NotEqual)) = 40
kind_number (kind.Binary (operator.Compare comparison.Less)) = 41
kind_number (kind.Binary (operator.Compare comparison.LessEqual)) = 42
kind_number (kind.Binary (operator.Compare comparison.Greater)) = 43
kind_number (kind.Binary (operator.Compare comparison.GreaterEqual)) = 44
kind_number (kind.Binary (operator.Compute arithmetic.Add)) = 45
kind_number (kind.Binary (operator.Compute arithmetic.Subtract)) = 46
kind_number (kind.Binary (operator.Compute arithmetic.Or)) = 47
kind_number (kind.Binary (operator.Compute arithmetic.Xor)) = 48
kind_number (kind.Binary (operator.Compute arithmetic.Multiply)) = 49
kind_number (kind.Binary (operator.Compute arithmetic.Divide)) = 50
kind_number (kind.Binary (operator.Compute arithmetic.Remainder)) = 51
kind_number (kind.Binary (operator.Compute arithmetic.ShiftLeft)) = 52
kind_number (kind.Binary (operator.Compute arithmetic.ShiftRight)) = 53
kind_number (kind.Binary (operator.Compute arithmetic.And)) = 54
kind_number (kind.Binary (operator.Compute arithmetic.AndNot)) = 55
kind_number kind.Selector = 56
kind_number kind.Bracketed = 57
kind_number kind.Bounds = 58
kind_number kind.BoundsFrom = 59
kind_number kind.Call = 60
kind_number kind.Composite = 61
kind_number kind.LiteralValue = 62
kind_number kind.Keyed = 63
kind_number kind.ExpressionList = 64
kind_number kind.Block = 65
kind_number kind.Return = 66
kind_number kind.Break = 67
kind_number kind.Continue = 68
kind_number kind.Fallthrough = 69
kind_number kind.ExpressionStatement = 70
kind_number (kind.StepStatement step.Increment) = 71
kind_number (kind.StepStatement step.Decrement) = 72
kind_number kind.Targets = 73
kind_number kind.NewNames = 74
kind_number kind.Assignment = 75
kind_number (kind.OperatorAssignment arithmetic.Add) = 76
kind_number (kind.OperatorAssignment arithmetic.Subtract) = 77
kind_number (kind.OperatorAssignment arithmetic.Or) = 78
kind_number (kind.OperatorAssignment arithmetic.Xor) = 79
kind_number (kind.OperatorAssignment arithmetic.Multiply) = 80
kind_number (kind.OperatorAssignment arithmetic.Divide) = 81
kind_number (kind.OperatorAssignment arithmetic.Remainder) = 82
kind_number (kind.OperatorAssignment arithmetic.ShiftLeft) = 83
kind_number (kind.OperatorAssignment arithmetic.ShiftRight) = 84
kind_number (kind.OperatorAssignment arithmetic.And) = 85
kind_number (kind.OperatorAssignment arithmetic.AndNot) = 86
kind_number kind.Define = 87
kind_number kind.If = 88
kind_number kind.Else = 89
kind_number kind.LateCondition = 90
kind_number kind.InitializedCondition = 91
kind_number kind.Switch = 92
kind_number kind.LateTag = 93
kind_number kind.InitializedTag = 94
kind_number kind.Case = 95
kind_number kind.Default = 96
kind_number kind.For = 97
kind_number kind.ForClause = 98
kind_number kind.InitializedForClause = 99
kind_number kind.Range = 100
kind_number kind.AssigningRange = 101
kind_number kind.DefiningRange = 102

pub kind_listed : (x : Kind) → slice_get kinds (kind_number x) ≡ Some x
kind_listed kind.File = refl
kind_listed kind.Imports = refl
kind_listed kind.Import = refl
kind_listed kind.ImportPath = refl
kind_listed kind.ImportGroup = refl
kind_listed (kind.Declaration sort.Constant) = refl
kind_listed (kind.Declaration sort.Type) = refl
kind_listed (kind.Declaration sort.Variable) = refl
kind_listed (kind.Group sort.Constant) = refl
kind_listed (kind.Group sort.Type) = refl
kind_listed (kind.Group sort.Variable) = refl
kind_listed (kind.Specification sort.Constant) = refl
kind_listed (kind.Specification sort.Type) = refl
kind_listed (kind.Specification sort.Variable) = refl
kind_listed kind.NameList = refl
kind_listed kind.DeclaredName = refl
kind_listed kind.TypedValues = refl
kind_listed kind.Values = refl
kind_listed kind.FunctionDeclaration = refl
kind_listed kind.Signature = refl
kind_listed kind.Parameters = refl
kind_listed kind.Parameter = refl
kind_listed kind.Results = refl
kind_listed kind.ParenthesizedType = refl
kind_listed kind.SequenceType = refl
kind_listed kind.FunctionType = refl
kind_listed kind.StructType = refl
kind_listed kind.Fields = refl
kind_listed kind.Name = refl
kind_listed kind.Integer = refl
kind_listed kind.Rune = refl
kind_listed kind.Text = refl
kind_listed kind.Parenthesized = refl
kind_listed (kind.Unary sign.Plus) = refl
kind_listed (kind.Unary sign.Minus) = refl
kind_listed (kind.Unary sign.Not) = refl
kind_listed (kind.Unary sign.Complement) = refl
kind_listed (kind.Binary operator.Either) = refl
kind_listed (kind.Binary operator.Both) = refl
kind_listed (kind.Binary (operator.Compare comparison.Equal)) = refl
kind_listed (kind.Binary (operator.Compare comparison.NotEqual)) = refl
kind_listed (kind.Binary (operator.Compare comparison.Less)) = refl
kind_listed (kind.Binary (operator.Compare comparison.LessEqual)) = refl
kind_listed (kind.Binary (operator.Compare comparison.Greater)) = refl
kind_listed (kind.Binary (operator.Compare comparison.GreaterEqual)) = refl
kind_listed (kind.Binary (operator.Compute arithmetic.Add)) = refl
kind_listed (kind.Binary (operator.Compute arithmetic.Subtract)) = refl
kind_listed (kind.Binary (operator.Compute arithmetic.Or)) = refl
kind_listed (kind.Binary (operator.Compute arithmetic.Xor)) = refl
kind_listed (kind.Binary (operator.Compute arithmetic.Multiply)) = refl
kind_listed (kind.Binary (operator.Compute arithmetic.Divide)) = refl
kind_listed (kind.Binary (operator.Compute arithmetic.Remainder)) = refl
kind_listed (kind.Binary (operator.Compute arithmetic.ShiftLeft)) = refl
kind_listed (kind.Binary (operator.Compute arithmetic.ShiftRight)) = refl
kind_listed (kind.Binary (operator.Compute arithmetic.And)) = refl
kind_listed (kind.Binary (operator.Compute arithmetic.AndNot)) = refl
kind_listed kind.Selector = refl
kind_listed kind.Bracketed = refl
kind_listed kind.Bounds = refl
kind_listed kind.BoundsFrom = refl
kind_listed kind.Call = refl
kind_listed kind.Composite = refl
kind_listed kind.LiteralValue = refl
kind_listed kind.Keyed = refl
kind_listed kind.ExpressionList = refl
kind_listed kind.Block = refl
kind_listed kind.Return = refl
kind_listed kind.Break = refl
kind_listed kind.Continue = refl
kind_listed kind.Fallthrough = refl
kind_listed kind.ExpressionStatement = refl
kind_listed (kind.StepStatement step.Increment) = refl
kind_listed (kind.StepStatement step.Decrement) = refl
kind_listed kind.Targets = refl
kind_listed kind.NewNames = refl
kind_listed kind.Assignment = refl
kind_listed (kind.OperatorAssignment arithmetic.Add) = refl
kind_listed (kind.OperatorAssignment arithmetic.Subtract) = refl
kind_listed (kind.OperatorAssignment arithmetic.Or) = refl
kind_listed (kind.OperatorAssignment arithmetic.Xor) = refl
kind_listed (kind.OperatorAssignment arithmetic.Multiply) = refl
kind_listed (kind.OperatorAssignment arithmetic.Divide) = refl
kind_listed (kind.OperatorAssignment arithmetic.Remainder) = refl
kind_listed (kind.OperatorAssignment arithmetic.ShiftLeft) = refl
kind_listed (kind.OperatorAssignment arithmetic.ShiftRight) = refl
kind_listed (kind.OperatorAssignment arithmetic.And) = refl
kind_listed (kind.OperatorAssignment arithmetic.AndNot) = refl
kind_listed kind.Define = refl
kind_listed kind.If = refl
kind_listed kind.Else = refl
kind_listed kind.LateCondition = refl
kind_listed kind.InitializedCondition = refl
kind_listed kind.Switch = refl
kind_listed kind.LateTag = refl
kind_listed kind.InitializedTag = refl
kind_listed kind.Case = refl
kind_listed kind.Default = refl
kind_listed kind.For = refl
kind_listed kind.ForClause = refl
kind_listed kind.InitializedForClause = refl
kind_listed kind.Range = refl
kind_listed kind.AssigningRange = refl
kind_listed kind.DefiningRange = refl

abbrev pub categories : List Category
categories =
    category.File ∷ category.Imports ∷ category.Import ∷ category.ImportBody ∷ category.ImportPath ∷ category.Declaration ∷
    (category.DeclarationBody sort.Constant) ∷ (category.DeclarationBody sort.Type) ∷ (category.DeclarationBody sort.Variable) ∷ (category.Specification sort.Constant) ∷ (category.Specification sort.Type) ∷ (category.Specification sort.Variable) ∷
    category.NameList ∷ category.DeclaredName ∷ category.ConstantRest ∷ category.VariableRest ∷ category.Signature ∷ category.Parameters ∷
    category.Entry ∷ category.Result ∷ category.Type ∷ category.Fields ∷ (category.Expression level.Either place.Free) ∷ (category.Expression level.Either place.Header) ∷
    (category.Expression level.Both place.Free) ∷ (category.Expression level.Both place.Header) ∷ (category.Expression level.Comparison place.Free) ∷ (category.Expression level.Comparison place.Header) ∷ (category.Expression level.Sum place.Free) ∷ (category.Expression level.Sum place.Header) ∷
    (category.Expression level.Product place.Free) ∷ (category.Expression level.Product place.Header) ∷ (category.Expression level.Unary place.Free) ∷ (category.Expression level.Unary place.Header) ∷ (category.Expression level.Primary place.Free) ∷ (category.Expression level.Primary place.Header) ∷
    (category.LiteralType place.Free) ∷ (category.LiteralType place.Header) ∷ category.Name ∷ category.Bracket ∷ category.Element ∷ category.Value ∷
    (category.ExpressionList place.Free) ∷ (category.ExpressionList place.Header) ∷ (category.LeftList place.Free) ∷ (category.LeftList place.Header) ∷ (category.Targets place.Free) ∷ (category.Targets place.Header) ∷
    (category.NewNames place.Free) ∷ (category.NewNames place.Header) ∷ category.Block ∷ category.Statement ∷ category.Simple ∷ category.Post ∷
    category.Else ∷ category.Branch ∷ category.IfHeader ∷ category.SwitchHeader ∷ category.ForHeader ∷ category.Clause ∷ []

abbrev pub category_number : Category → ℕ
category_number category.File = 0
category_number category.Imports = 1
category_number category.Import = 2
category_number category.ImportBody = 3
category_number category.ImportPath = 4
category_number category.Declaration = 5
category_number (category.DeclarationBody sort.Constant) = 6
category_number (category.DeclarationBody sort.Type) = 7
category_number (category.DeclarationBody sort.Variable) = 8
category_number (category.Specification sort.Constant) = 9
category_number (category.Specification sort.Type) = 10
category_number (category.Specification sort.Variable) = 11
category_number category.NameList = 12
category_number category.DeclaredName = 13
category_number category.ConstantRest = 14
category_number category.VariableRest = 15
category_number category.Signature = 16
category_number category.Parameters = 17
category_number category.Entry = 18
category_number category.Result = 19
category_number category.Type = 20
category_number category.Fields = 21
category_number (category.Expression level.Either place.Free) = 22
category_number (category.Expression level.Either place.Header) = 23
category_number (category.Expression level.Both place.Free) = 24
category_number (category.Expression level.Both place.Header) = 25
category_number (category.Expression level.Comparison place.Free) = 26
category_number (category.Expression level.Comparison place.Header) = 27
category_number (category.Expression level.Sum place.Free) = 28
category_number (category.Expression level.Sum place.Header) = 29
category_number (category.Expression level.Product place.Free) = 30
category_number (category.Expression level.Product place.Header) = 31
category_number (category.Expression level.Unary place.Free) = 32
category_number (category.Expression level.Unary place.Header) = 33
category_number (category.Expression level.Primary place.Free) = 34
category_number (category.Expression level.Primary place.Header) = 35
category_number (category.LiteralType place.Free) = 36
category_number (category.LiteralType place.Header) = 37
category_number category.Name = 38
category_number category.Bracket = 39
category_number category.Element = 40
category_number category.Value = 41
category_number (category.ExpressionList place.Free) = 42
category_number (category.ExpressionList place.Header) = 43
category_number (category.LeftList place.Free) = 44
category_number (category.LeftList place.Header) = 45
category_number (category.Targets place.Free) = 46
category_number (category.Targets place.Header) = 47
category_number (category.NewNames place.Free) = 48
category_number (category.NewNames place.Header) = 49
category_number category.Block = 50
category_number category.Statement = 51
category_number category.Simple = 52
category_number category.Post = 53
category_number category.Else = 54
category_number category.Branch = 55
category_number category.IfHeader = 56
category_number category.SwitchHeader = 57
category_number category.ForHeader = 58
category_number category.Clause = 59

pub category_listed : (x : Category) → slice_get categories (category_number x) ≡ Some x
category_listed category.File = refl
category_listed category.Imports = refl
category_listed category.Import = refl
category_listed category.ImportBody = refl
category_listed category.ImportPath = refl
category_listed category.Declaration = refl
category_listed (category.DeclarationBody sort.Constant) = refl
category_listed (category.DeclarationBody sort.Type) = refl
category_listed (category.DeclarationBody sort.Variable) = refl
category_listed (category.Specification sort.Constant) = refl
category_listed (category.Specification sort.Type) = refl
category_listed (category.Specification sort.Variable) = refl
category_listed category.NameList = refl
category_listed category.DeclaredName = refl
category_listed category.ConstantRest = refl
category_listed category.VariableRest = refl
category_listed category.Signature = refl
category_listed category.Parameters = refl
category_listed category.Entry = refl
category_listed category.Result = refl
category_listed category.Type = refl
category_listed category.Fields = refl
category_listed (category.Expression level.Either place.Free) = refl
category_listed (category.Expression level.Either place.Header) = refl
category_listed (category.Expression level.Both place.Free) = refl
category_listed (category.Expression level.Both place.Header) = refl
category_listed (category.Expression level.Comparison place.Free) = refl
category_listed (category.Expression level.Comparison place.Header) = refl
category_listed (category.Expression level.Sum place.Free) = refl
category_listed (category.Expression level.Sum place.Header) = refl
category_listed (category.Expression level.Product place.Free) = refl
category_listed (category.Expression level.Product place.Header) = refl
category_listed (category.Expression level.Unary place.Free) = refl
category_listed (category.Expression level.Unary place.Header) = refl
category_listed (category.Expression level.Primary place.Free) = refl
category_listed (category.Expression level.Primary place.Header) = refl
category_listed (category.LiteralType place.Free) = refl
category_listed (category.LiteralType place.Header) = refl
category_listed category.Name = refl
category_listed category.Bracket = refl
category_listed category.Element = refl
category_listed category.Value = refl
category_listed (category.ExpressionList place.Free) = refl
category_listed (category.ExpressionList place.Header) = refl
category_listed (category.LeftList place.Free) = refl
category_listed (category.LeftList place.Header) = refl
category_listed (category.Targets place.Free) = refl
category_listed (category.Targets place.Header) = refl
category_listed (category.NewNames place.Free) = refl
category_listed (category.NewNames place.Header) = refl
category_listed category.Block = refl
category_listed category.Statement = refl
category_listed category.Simple = refl
category_listed category.Post = refl
category_listed category.Else = refl
category_listed category.Branch = refl
category_listed category.IfHeader = refl
category_listed category.SwitchHeader = refl
category_listed category.ForHeader = refl
category_listed category.Clause = refl

pub and_both : (a b : Bool) → a && b ≡ true → (a ≡ true) × (b ≡ true)
and_both true b h = (refl, h)
and_both false b h = cc

pub all_at : {A : Type 0} (f : A → Bool) (xs : List A) (n : ℕ) (x : A) → all f xs ≡ true → slice_get xs n ≡ Some x → f x ≡ true
all_at f [] n x h e = cc
all_at f (y ∷ ys) zero x h e = let b = and_both (f y) (all f ys) h in let same : y ≡ x = cc in ap f (sym same) ∙ b.0
all_at f (y ∷ ys) (suc n) x h e = let b = and_both (f y) (all f ys) h in all_at f ys n x b.1 e

-- a token or the end
abbrev pub every : (Option TokenKind → Bool) → Bool
every f = f None && all (λ w. f (Some w)) tokens

pub every_at : (f : Option TokenKind → Bool) → every f ≡ true → (w : Option TokenKind) → f w ≡ true
every_at f h None = (and_both (f None) (all (λ w. f (Some w)) tokens) h).0
every_at f h (Some w) = all_at (λ w. f (Some w)) tokens (token_number w) w (and_both (f None) (all (λ w. f (Some w)) tokens) h).1 (token_listed w)

pub kinds_at : (f : Kind → Bool) → all f kinds ≡ true → (k : Kind) → f k ≡ true
kinds_at f h k = all_at f kinds (kind_number k) k h (kind_listed k)

pub categories_at : (f : Category → Bool) → all f categories ≡ true → (c : Category) → f c ≡ true
categories_at f h c = all_at f categories (category_number c) c h (category_listed c)

number_one : {A : Type 0} (x y : A) → Some x ≡ Some y → x ≡ y
number_one x y e = cc

eq_number : (m n : ℕ) → nat_eq m n ≡ true → m ≡ n
eq_number m n h = grind arith

abbrev pub same_kind : Kind → Kind → Bool
same_kind k l = nat_eq (kind_number k) (kind_number l)

pub same_kind-is : (k l : Kind) → same_kind k l ≡ true → k ≡ l
same_kind-is k l h = let e = eq_number (kind_number k) (kind_number l) h in number_one k l (sym (kind_listed k) ∙ ap (slice_get kinds) e ∙ kind_listed l)

abbrev pub same_category : Category → Category → Bool
same_category c d = nat_eq (category_number c) (category_number d)

pub same_category-is : (c d : Category) → same_category c d ≡ true → c ≡ d
same_category-is c d h = let e = eq_number (category_number c) (category_number d) h in number_one c d (sym (category_listed c) ∙ ap (slice_get categories) e ∙ category_listed d)

same_number : (n : ℕ) → nat_eq n n ≡ true
same_number n = grind arith

pub same_category-self : (c : Category) → same_category c c ≡ true
same_category-self c = same_number (category_number c)
