-- The grammar: which trees stand over which tokens.
--
-- `rule` has a line for each production, with its name in the Go specification; read it as EBNF. `Derives ts c t` says that
-- the tokens of t's range are a text of the category c, and that t is its derivation; `Spells` says the same of a right side
-- and a row of parts.
use Rattle.std.specs.Prelude.{◌≡◌, ℕ, suc, ◌<◌, ◌≤◌, ◌⊎◌, Bool, true, false, IsTrue, nat_le, ◌&&◌, ◌||◌, if◌then◌else◌, List, [], ◌∷◌, Option, Some, None, slice_get, length}
use Rattle.go_tokens.specs.declared.token.TokenKind.{TokenKind}
use Rattle.go_tokens.specs.declared.token.TokenKind.TheVariants as token
use Rattle.go_grammar.specs.declared.kind.Kind.{Kind}
use Rattle.go_grammar.specs.declared.kind.Kind.TheVariants as kind
use Rattle.go_grammar.specs.declared.kind.Sort.TheVariants as sort
use Rattle.go_grammar.specs.declared.kind.Level.TheVariants as level
use Rattle.go_grammar.specs.declared.kind.Place.{Place}
use Rattle.go_grammar.specs.declared.kind.Place.TheVariants as place
use Rattle.go_grammar.specs.declared.kind.Category.{Category}
use Rattle.go_grammar.specs.declared.kind.Category.TheVariants as category
use Rattle.go_grammar.specs.Operators.{operator_word, assigning_word, sign_word, step_word, sort_word, operator_level, tighter}
use Rattle.go_grammar.specs.Categories.{within, place_of, is_type_literal, is_type_place}
use Rattle.go_grammar.specs.Rules.{Items, Lines, Open, Each, Again, Rule, End, Then, Maybe, Unless, Many, item}
use Rattle.go_grammar.specs.Trees.{Tree, node, Trees, none, more, skip, kind_of, first, last, parts, depth}
use Rattle.go_grammar.specs.Words.{is_word, is_among}

-- any expression
abbrev pub any : Place → Category
any p = category.Expression level.Either p

-- the words that a result begins with
abbrev pub result_words : List TokenKind
result_words = token.Identifier ∷ token.LeftParenthesis ∷ token.LeftBracket ∷ token.Func ∷ token.Struct ∷ []

-- the productions
abbrev pub rule : Place → Kind → Rule
-- Source file organization: SourceFile = PackageClause ";" { ImportDecl ";" } { TopLevelDecl ";" }
rule p kind.File = Maybe (token.Package ∷ token.Identifier ∷ token.Semicolon ∷ []) category.Imports (Many [] (Each category.Declaration (token.Semicolon ∷ []) []))
rule p kind.Imports = Then [] category.Import (Many (token.Semicolon ∷ []) (Each category.Import (token.Semicolon ∷ []) []))
-- Import declarations: ImportDecl = "import" ( ImportSpec | "(" { ImportSpec ";" } ")" )
rule p kind.Import = Then (token.Import ∷ []) category.ImportBody (End [])
rule p kind.ImportGroup = Many (token.LeftParenthesis ∷ []) (Lines false category.ImportPath token.Semicolon token.RightParenthesis)
-- Import declarations: ImportPath = string_lit
rule p kind.ImportPath = End (token.Text ∷ [])
-- Constant, type and variable declarations: "const" ( ConstSpec | "(" { ConstSpec ";" } ")" ), and alike
rule p (kind.Declaration s) = Then (sort_word s ∷ []) (category.DeclarationBody s) (End [])
rule p (kind.Group s) = Many (token.LeftParenthesis ∷ []) (Lines false (category.Specification s) token.Semicolon token.RightParenthesis)
-- Constant declarations: ConstSpec = IdentifierList [ [ Type ] "=" ExpressionList ]
rule p (kind.Specification sort.Constant) = Then [] category.NameList (Maybe [] category.ConstantRest (End []))
-- Type declarations: TypeDef = identifier Type
rule p (kind.Specification sort.Type) = Then (token.Identifier ∷ []) category.Type (End [])
-- Variable declarations: VarSpec = IdentifierList ( Type [ "=" ExpressionList ] | "=" ExpressionList )
rule p (kind.Specification sort.Variable) = Then [] category.NameList (Then [] category.VariableRest (End []))
-- Constant declarations: IdentifierList = identifier { "," identifier }
rule p kind.NameList = Then [] category.DeclaredName (Many [] (Again category.DeclaredName token.Comma))
rule p kind.DeclaredName = End (token.Identifier ∷ [])
rule p kind.TypedValues = Then [] category.Type (Then (token.Assign ∷ []) (category.ExpressionList place.Free) (End []))
rule p kind.Values = Then (token.Assign ∷ []) (category.ExpressionList place.Free) (End [])
-- Function declarations: FunctionDecl = "func" FunctionName Signature [ FunctionBody ]
rule p kind.FunctionDeclaration = Then (token.Func ∷ token.Identifier ∷ []) category.Signature (Maybe [] category.Block (End []))
-- Function types: Signature = Parameters [ Result ]
rule p kind.Signature = Then [] category.Parameters (Unless [] category.Result result_words (End []))
-- Function types: Parameters = "(" [ ParameterList [ "," ] ] ")"
rule p kind.Parameters = Many (token.LeftParenthesis ∷ []) (Lines false category.Entry token.Comma token.RightParenthesis)
-- Function types: ParameterDecl = [ IdentifierList ] Type
rule p kind.Parameter = Then [] category.Name (Then [] category.Type (End []))
-- Function types: Result = Parameters | Type
rule p kind.Results = Many (token.LeftParenthesis ∷ []) (Lines false category.Type token.Comma token.RightParenthesis)
-- Types: Type = TypeName | TypeLit | "(" Type ")"
rule p kind.ParenthesizedType = Then (token.LeftParenthesis ∷ []) category.Type (End (token.RightParenthesis ∷ []))
-- Array types, Slice types: "[" [ ArrayLength ] "]" ElementType
rule p kind.SequenceType = Maybe (token.LeftBracket ∷ []) (any place.Free) (Then (token.RightBracket ∷ []) category.Type (End []))
-- Function types: FunctionType = "func" Signature
rule p kind.FunctionType = Then (token.Func ∷ []) category.Signature (End [])
-- Struct types: StructType = "struct" "{" { FieldDecl ";" } "}"
rule p kind.StructType = Many (token.Struct ∷ token.LeftBrace ∷ []) (Lines false category.Fields token.Semicolon token.RightBrace)
-- Struct types: FieldDecl = IdentifierList Type
rule p kind.Fields = Then [] category.NameList (Then [] category.Type (End []))
-- Operands: OperandName, BasicLit, "(" Expression ")"
rule p kind.Name = End (token.Identifier ∷ [])
rule p kind.Integer = End (token.Integer ∷ [])
rule p kind.Rune = End (token.Rune ∷ [])
rule p kind.Text = End (token.Text ∷ [])
rule p kind.Parenthesized = Then (token.LeftParenthesis ∷ []) (any place.Free) (End (token.RightParenthesis ∷ []))
-- Operators: UnaryExpr = unary_op UnaryExpr
rule p (kind.Unary s) = Then (sign_word s ∷ []) (category.Expression level.Unary p) (End [])
-- Operators: Expression binary_op Expression
rule p (kind.Binary o) = Then [] (category.Expression (operator_level o) p) (Then (operator_word o ∷ []) (category.Expression (tighter (operator_level o)) p) (End []))
-- Primary expressions: Selector = "." identifier
rule p kind.Selector = Then [] (category.Expression level.Primary p) (End (token.Period ∷ token.Identifier ∷ []))
-- Primary expressions: Index = "[" Expression "]", Slice = "[" [ Expression ] ":" [ Expression ] "]"
rule p kind.Bracketed = Then [] (category.Expression level.Primary p) (Then (token.LeftBracket ∷ []) category.Bracket (End (token.RightBracket ∷ [])))
rule p kind.Bounds = Maybe (token.Colon ∷ []) (any place.Free) (End [])
rule p kind.BoundsFrom = Then [] (any place.Free) (Maybe (token.Colon ∷ []) (any place.Free) (End []))
-- Primary expressions: Arguments = "(" [ ExpressionList [ "," ] ] ")"
rule p kind.Call = Then [] (category.Expression level.Primary p) (Many (token.LeftParenthesis ∷ []) (Lines false (any place.Free) token.Comma token.RightParenthesis))
-- Composite literals: CompositeLit = LiteralType LiteralValue
rule p kind.Composite = Then [] (category.LiteralType p) (Many (token.LeftBrace ∷ []) (Lines false category.Element token.Comma token.RightBrace))
-- Composite literals: LiteralValue = "{" [ ElementList [ "," ] ] "}"
rule p kind.LiteralValue = Many (token.LeftBrace ∷ []) (Lines false category.Element token.Comma token.RightBrace)
-- Composite literals: KeyedElement = [ FieldName ":" ] Element
rule p kind.Keyed = Then [] category.Name (Then (token.Colon ∷ []) category.Value (End []))
-- Constant declarations: ExpressionList = Expression { "," Expression }
rule p kind.ExpressionList = Then [] (any p) (Many [] (Again (any p) token.Comma))
-- Blocks: Block = "{" StatementList "}"
rule p kind.Block = Many (token.LeftBrace ∷ []) (Lines true category.Statement token.Semicolon token.RightBrace)
-- Return statements: ReturnStmt = "return" [ ExpressionList ]
rule p kind.Return = Maybe (token.Return ∷ []) (category.ExpressionList p) (End [])
rule p kind.Break = End (token.Break ∷ [])
rule p kind.Continue = End (token.Continue ∷ [])
rule p kind.Fallthrough = End (token.Fallthrough ∷ [])
-- Expression statements: ExpressionStmt = Expression
rule p kind.ExpressionStatement = Then [] (any p) (End [])
-- IncDec statements: IncDecStmt = Expression ( "++" | "--" )
rule p (kind.StepStatement s) = Then [] (any p) (End (step_word s ∷ []))
-- Assignment statements: Assignment = ExpressionList "=" ExpressionList
rule p kind.Targets = Then [] (category.LeftList p) (End (token.Assign ∷ []))
rule p kind.Assignment = Then [] (category.Targets p) (Then [] (category.ExpressionList p) (End []))
-- Assignment statements: Expression assign_op Expression
rule p (kind.OperatorAssignment o) = Then [] (any p) (Then (assigning_word o ∷ []) (any p) (End []))
-- Short variable declarations: ShortVarDecl = IdentifierList ":=" ExpressionList
rule p kind.NewNames = Then [] (category.LeftList p) (End (token.Define ∷ []))
rule p kind.Define = Then [] (category.NewNames p) (Then [] (category.ExpressionList p) (End []))
-- If statements: IfStmt = "if" [ SimpleStmt ";" ] Expression Block [ "else" ( IfStmt | Block ) ]
rule p kind.If = Then (token.If ∷ []) category.IfHeader (Then [] category.Block (Maybe [] category.Else (End [])))
rule p kind.Else = Then (token.Else ∷ []) category.Branch (End [])
rule p kind.LateCondition = Then (token.Semicolon ∷ []) (any place.Header) (End [])
rule p kind.InitializedCondition = Then [] category.Simple (Then (token.Semicolon ∷ []) (any place.Header) (End []))
-- Expression switches: ExprSwitchStmt = "switch" [ SimpleStmt ";" ] [ Expression ] "{" { ExprCaseClause } "}"
rule p kind.Switch = Maybe (token.Switch ∷ []) category.SwitchHeader (Many (token.LeftBrace ∷ []) (Each category.Clause [] (token.RightBrace ∷ [])))
rule p kind.LateTag = Maybe (token.Semicolon ∷ []) (any place.Header) (End [])
rule p kind.InitializedTag = Then [] category.Simple (Maybe (token.Semicolon ∷ []) (any place.Header) (End []))
-- Expression switches: ExprCaseClause = ( "case" ExpressionList | "default" ) ":" StatementList
rule p kind.Case = Then (token.Case ∷ []) (category.ExpressionList place.Free) (Many (token.Colon ∷ []) (Open category.Statement token.Semicolon))
rule p kind.Default = Many (token.Default ∷ token.Colon ∷ []) (Open category.Statement token.Semicolon)
-- For statements: ForStmt = "for" [ Condition | ForClause | RangeClause ] Block
rule p kind.For = Maybe (token.For ∷ []) category.ForHeader (Then [] category.Block (End []))
-- For statements: ForClause = [ InitStmt ] ";" [ Condition ] ";" [ PostStmt ]
rule p kind.ForClause = Maybe (token.Semicolon ∷ []) (any place.Header) (Maybe (token.Semicolon ∷ []) category.Post (End []))
rule p kind.InitializedForClause = Then [] category.Simple (Maybe (token.Semicolon ∷ []) (any place.Header) (Maybe (token.Semicolon ∷ []) category.Post (End [])))
-- For statements: RangeClause = [ ExpressionList "=" | IdentifierList ":=" ] "range" Expression
rule p kind.Range = Then (token.Range ∷ []) (any place.Header) (End [])
rule p kind.AssigningRange = Then [] (category.Targets place.Header) (Then (token.Range ∷ []) (any place.Header) (End []))
rule p kind.DefiningRange = Then [] (category.NewNames place.Header) (Then (token.Range ∷ []) (any place.Header) (End []))

-- the parts of the first part
abbrev pub first_parts : Trees → Trees
first_parts none = none
first_parts (more p ps) = parts p
first_parts (skip ps) = none

abbrev pub is_name : Kind → Bool
is_name kind.Name = true
is_name k = false

abbrev pub is_parameter : Kind → Bool
is_parameter kind.Parameter = true
is_parameter k = false

-- each part is there and is a name
abbrev pub are_names : Trees → Bool
are_names none = true
are_names (more p ps) = is_name (kind_of p) && are_names ps
are_names (skip ps) = false

abbrev pub count : Trees → ℕ
count none = 0
count (more p ps) = suc (count ps)
count (skip ps) = suc (count ps)

-- no entry has a name
abbrev pub are_types : Trees → Bool
are_types none = true
are_types (more p ps) = (if is_parameter (kind_of p) then false else true) && are_types ps
are_types (skip ps) = false

-- each entry is a name or has one
abbrev pub are_entries : Trees → Bool
are_entries none = true
are_entries (more p ps) = (is_name (kind_of p) || is_parameter (kind_of p)) && are_entries ps
are_entries (skip ps) = false

-- the last entry has a name and a type; b says it of the entries in front
abbrev pub ends_from : Bool → Trees → Bool
ends_from b none = b
ends_from b (more p ps) = ends_from (is_parameter (kind_of p)) ps
ends_from b (skip ps) = ends_from false ps

abbrev pub ends_named : Trees → Bool
ends_named ps = ends_from false ps

-- What the parts of a node must be besides: names before `:=`; one or two of what a range assigns; and parameters that all
-- have a name or all have none.
abbrev pub agrees : Kind → Trees → Bool
agrees kind.NewNames ps = are_names (first_parts ps)
agrees kind.AssigningRange ps = nat_le (count (first_parts (first_parts ps))) 2
agrees kind.DefiningRange ps = nat_le (count (first_parts (first_parts ps))) 2
agrees kind.Parameters ps = are_types ps || (ends_named ps && are_entries ps)
agrees k ps = true

-- A type that is an operand isn't followed by a brace.
abbrev pub ends : Category → Kind → Option TokenKind → Bool
ends c k w = if is_type_place c then true else (if is_type_literal k then (if is_word w token.LeftBrace then false else true) else true)

abbrev pub IsAt : List TokenKind → ℕ → TokenKind → Type 0
IsAt ts i w = slice_get ts i ≡ Some w

-- these words stand from i up to j
abbrev pub Words : List TokenKind → ℕ → List TokenKind → ℕ → Type 0
Words ts i [] j = i ≡ j
Words ts i (w ∷ ws) j = IsAt ts i w × Words ts (suc i) ws j

-- the word s alone stands from i up to j, any number of times
pub record Only (ts : List TokenKind) (s : TokenKind) (i j : ℕ) : Type 0 where
  pub order : i ≤ j
  pub each : (k : ℕ) → i ≤ k → k < j → IsAt ts k s

-- from where items may begin up to the first token of one
abbrev pub Gap : List TokenKind → Items → ℕ → ℕ → Type 0
Gap ts (Lines true c s e) i k = Only ts s i k
Gap ts (Lines false c s e) i k = i ≡ k
Gap ts (Open c s) i k = Only ts s i k
Gap ts (Each c us vs) i k = i ≡ k
Gap ts (Again c s) i k = IsAt ts i s × (suc i ≡ k)

-- from where items may begin up to the end, where there is none
abbrev pub Close : List TokenKind → Items → ℕ → ℕ → Type 0
Close ts (Lines b c s e) i j = (k : ℕ) × Gap ts (Lines b c s e) i k × IsAt ts k e × (suc k ≡ j)
Close ts (Open c s) i j = Only ts s i j
Close ts (Each c us vs) i j = Words ts i vs j
Close ts (Again c s) i j = i ≡ j

-- from behind an item up to where items may begin
abbrev pub Between : List TokenKind → Items → ℕ → ℕ → Type 0
Between ts (Lines b c s e) i k = IsAt ts i s × (suc i ≡ k)
Between ts (Open c s) i k = IsAt ts i s × (suc i ≡ k)
Between ts (Each c us vs) i k = Words ts i us k
Between ts (Again c s) i k = i ≡ k

-- from behind an item up to the end, where the separator is left out
abbrev pub Early : List TokenKind → Items → ℕ → ℕ → Type 0
Early ts (Lines b c s e) i j = IsAt ts i e × (suc i ≡ j)
Early ts (Open c s) i j = IsAt ts i token.RightBrace × (i ≡ j)
Early ts (Each c us vs) i j = ⊥
Early ts (Again c s) i j = ⊥

abbrev mutual
  -- the tokens of the tree's range are a text of the category, and the tree is its derivation
  pub Derives : List TokenKind → Category → Tree → Type 0
  Derives ts c (node k i j ps) = IsTrue (within c k) × Spells ts (rule (place_of c) k) i ps j × IsTrue (agrees k ps) × IsTrue (ends c k (slice_get ts j))

  -- the tokens from i up to j are a text of the right side, with these parts
  pub Spells : List TokenKind → Rule → ℕ → Trees → ℕ → Type 0
  Spells ts (End ws) i none j = Words ts i ws j
  Spells ts (End ws) i (more p ps) j = ⊥
  Spells ts (End ws) i (skip ps) j = ⊥
  Spells ts (Then ws c r) i none j = ⊥
  Spells ts (Then ws c r) i (more p ps) j = Words ts i ws (first p) × Derives ts c p × Spells ts r (last p) ps j
  Spells ts (Then ws c r) i (skip ps) j = ⊥
  Spells ts (Maybe ws c r) i none j = ⊥
  Spells ts (Maybe ws c r) i (more p ps) j = Words ts i ws (first p) × Derives ts c p × Spells ts r (last p) ps j
  Spells ts (Maybe ws c r) i (skip ps) j = (k : ℕ) × Words ts i ws k × Spells ts r k ps j
  Spells ts (Unless ws c us r) i none j = ⊥
  Spells ts (Unless ws c us r) i (more p ps) j = Words ts i ws (first p) × Derives ts c p × Spells ts r (last p) ps j
  Spells ts (Unless ws c us r) i (skip ps) j = (k : ℕ) × Words ts i ws k × (is_among (slice_get ts k) us ≡ false) × Spells ts r k ps j
  Spells ts (Many ws l) i none j = (k : ℕ) × Words ts i ws k × Close ts l k j
  Spells ts (Many ws l) i (more p ps) j = (k : ℕ) × Words ts i ws k × Gap ts l k (first p) × Derives ts (item l) p × Goes ts l (last p) ps j
  Spells ts (Many ws l) i (skip ps) j = ⊥

  -- what follows an item
  pub Goes : List TokenKind → Items → ℕ → Trees → ℕ → Type 0
  Goes ts l i none j = Early ts l i j ⊎ ((k : ℕ) × Between ts l i k × Close ts l k j)
  Goes ts l i (more p ps) j = (k : ℕ) × Between ts l i k × Gap ts l k (first p) × Derives ts (item l) p × Goes ts l (last p) ps j
  Goes ts l i (skip ps) j = ⊥

-- The tree of a file: its derivation over all the tokens, with at most 100 nodes above any node.
pub record IsFile (ts : List TokenKind) (t : Tree) : Type 0 where
  pub derives : Derives ts category.File t
  pub begins : first t ≡ 0
  pub ends : last t ≡ length ts
  pub shallow : depth t ≤ 101
