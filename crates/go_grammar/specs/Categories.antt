-- Which kinds of nodes stand where.
use Rattle.std.specs.Prelude.{ℕ, Bool, true, false, nat_le, ◌&&◌}
use Rattle.go_grammar.specs.declared.kind.Kind.{Kind}
use Rattle.go_grammar.specs.declared.kind.Kind.TheVariants as kind
use Rattle.go_grammar.specs.declared.kind.Sort.{Sort}
use Rattle.go_grammar.specs.declared.kind.Sort.TheVariants as sort
use Rattle.go_grammar.specs.declared.kind.Level.{Level}
use Rattle.go_grammar.specs.declared.kind.Place.{Place}
use Rattle.go_grammar.specs.declared.kind.Place.TheVariants as place
use Rattle.go_grammar.specs.declared.kind.Category.{Category}
use Rattle.go_grammar.specs.declared.kind.Category.TheVariants as category
use Rattle.go_grammar.specs.Operators.{rank, operator_level}

-- how tightly an expression of the kind holds together, and 0 for what is none
abbrev pub tightness : Kind → ℕ
tightness kind.Name = 7
tightness kind.Integer = 7
tightness kind.Rune = 7
tightness kind.Text = 7
tightness kind.Parenthesized = 7
tightness kind.Selector = 7
tightness kind.Bracketed = 7
tightness kind.Call = 7
tightness kind.Composite = 7
tightness kind.SequenceType = 7
tightness kind.FunctionType = 7
tightness kind.StructType = 7
tightness (kind.Unary s) = 6
tightness (kind.Binary o) = rank (operator_level o)
tightness k = 0

abbrev pub is_expression : Kind → Bool
is_expression k = nat_le 1 (tightness k)

-- the place that the texts of a category belong to
abbrev pub place_of : Category → Place
place_of (category.Expression l p) = p
place_of (category.LiteralType p) = p
place_of (category.ExpressionList p) = p
place_of (category.LeftList p) = p
place_of (category.Targets p) = p
place_of (category.NewNames p) = p
place_of category.Simple = place.Header
place_of category.Post = place.Header
place_of category.IfHeader = place.Header
place_of category.SwitchHeader = place.Header
place_of category.ForHeader = place.Header
place_of c = place.Free

abbrev pub is_sort : Sort → Sort → Bool
is_sort sort.Constant sort.Constant = true
is_sort sort.Type sort.Type = true
is_sort sort.Variable sort.Variable = true
is_sort a b = false

abbrev pub is_type : Kind → Bool
is_type kind.Name = true
is_type kind.ParenthesizedType = true
is_type kind.SequenceType = true
is_type kind.FunctionType = true
is_type kind.StructType = true
is_type k = false

abbrev pub is_result : Kind → Bool
is_result kind.Name = true
is_result kind.SequenceType = true
is_result kind.FunctionType = true
is_result kind.StructType = true
is_result kind.Results = true
is_result k = false

-- a type as an operand, other than a name
abbrev pub is_type_literal : Kind → Bool
is_type_literal kind.SequenceType = true
is_type_literal kind.FunctionType = true
is_type_literal kind.StructType = true
is_type_literal k = false

-- what a composite literal begins with
abbrev pub is_literal_type : Place → Kind → Bool
is_literal_type place.Free kind.Name = true
is_literal_type p kind.SequenceType = true
is_literal_type p kind.StructType = true
is_literal_type p k = false

-- the last statement of a loop's header: any simple statement other than a definition
abbrev pub is_post : Kind → Bool
is_post kind.ExpressionStatement = true
is_post (kind.StepStatement s) = true
is_post kind.Assignment = true
is_post (kind.OperatorAssignment o) = true
is_post k = false

-- Simple statements
abbrev pub is_simple : Kind → Bool
is_simple kind.ExpressionStatement = true
is_simple (kind.StepStatement s) = true
is_simple kind.Assignment = true
is_simple (kind.OperatorAssignment o) = true
is_simple kind.Define = true
is_simple k = false

-- Statements
abbrev pub is_statement : Kind → Bool
is_statement (kind.Declaration s) = true
is_statement kind.Return = true
is_statement kind.Break = true
is_statement kind.Continue = true
is_statement kind.Fallthrough = true
is_statement kind.Block = true
is_statement kind.If = true
is_statement kind.Switch = true
is_statement kind.For = true
is_statement k = is_simple k

-- which kinds a category has
abbrev pub within : Category → Kind → Bool
within category.File kind.File = true
within category.File k = false
within category.Imports kind.Imports = true
within category.Imports k = false
within category.Import kind.Import = true
within category.Import k = false
within category.ImportBody kind.ImportPath = true
within category.ImportBody kind.ImportGroup = true
within category.ImportBody k = false
within category.ImportPath kind.ImportPath = true
within category.ImportPath k = false
within category.Declaration (kind.Declaration s) = true
within category.Declaration kind.FunctionDeclaration = true
within category.Declaration k = false
within category.NameList kind.NameList = true
within category.NameList k = false
within category.DeclaredName kind.DeclaredName = true
within category.DeclaredName k = false
within category.Signature kind.Signature = true
within category.Signature k = false
within category.Parameters kind.Parameters = true
within category.Parameters k = false
within category.Fields kind.Fields = true
within category.Fields k = false
within category.Name kind.Name = true
within category.Name k = false
within category.Block kind.Block = true
within category.Block k = false
within category.Else kind.Else = true
within category.Else k = false
within category.Branch kind.If = true
within category.Branch kind.Block = true
within category.Branch k = false
within category.Clause kind.Case = true
within category.Clause kind.Default = true
within category.Clause k = false
within (category.DeclarationBody s) (kind.Specification t) = is_sort s t
within (category.DeclarationBody s) (kind.Group t) = is_sort s t
within (category.DeclarationBody s) k = false
within (category.Specification s) (kind.Specification t) = is_sort s t
within (category.Specification s) k = false
within category.ConstantRest kind.Values = true
within category.ConstantRest kind.TypedValues = true
within category.ConstantRest k = false
within category.VariableRest kind.Values = true
within category.VariableRest kind.TypedValues = true
within category.VariableRest k = is_type k
within category.Entry kind.Parameter = true
within category.Entry k = is_type k
within category.Result k = is_result k
within category.Type k = is_type k
within (category.Expression l p) k = nat_le (rank l) (tightness k)
within (category.LiteralType p) k = is_literal_type p k
within category.Bracket kind.Bounds = true
within category.Bracket kind.BoundsFrom = true
within category.Bracket k = is_expression k
within category.Element kind.LiteralValue = true
within category.Element kind.Keyed = true
within category.Element k = is_expression k
within category.Value kind.LiteralValue = true
within category.Value k = is_expression k
within (category.ExpressionList p) kind.ExpressionList = true
within (category.ExpressionList p) k = false
within (category.LeftList p) kind.ExpressionList = true
within (category.LeftList p) k = false
within (category.Targets p) kind.Targets = true
within (category.Targets p) k = false
within (category.NewNames p) kind.NewNames = true
within (category.NewNames p) k = false
within category.Statement k = is_statement k
within category.Simple k = is_simple k
within category.Post k = is_post k
within category.IfHeader kind.LateCondition = true
within category.IfHeader kind.InitializedCondition = true
within category.IfHeader k = is_expression k
within category.SwitchHeader kind.LateTag = true
within category.SwitchHeader kind.InitializedTag = true
within category.SwitchHeader k = is_expression k
within category.ForHeader kind.ForClause = true
within category.ForHeader kind.InitializedForClause = true
within category.ForHeader kind.Range = true
within category.ForHeader kind.AssigningRange = true
within category.ForHeader kind.DefiningRange = true
within category.ForHeader k = is_expression k

-- the categories in which a type is a type, and no operand
abbrev pub is_type_place : Category → Bool
is_type_place category.VariableRest = true
is_type_place category.Entry = true
is_type_place category.Result = true
is_type_place category.Type = true
is_type_place (category.LiteralType p) = true
is_type_place c = false
