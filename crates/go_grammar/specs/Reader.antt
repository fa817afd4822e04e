-- A reader of the grammar: a function that finds the tree at a place, from the left, by the next token.
--
-- The number n that each function takes first bounds how long the reader works; from some number on the answer is the
-- same. The number m is the room for a tree: it is to have at most m levels.
use Rattle.std.specs.Prelude.{◌≡◌, ◌≤◌, ◌+◌, ◌-◌, ℕ, zero, suc, Bool, true, false, nat_le, if◌then◌else◌, ◌&&◌, List, [], ◌∷◌, Option, Some, None, slice_get}
use Rattle.go_base.specs.Optional.{◌>>=◌}
use Rattle.go_tokens.specs.declared.token.TokenKind.{TokenKind}
use Rattle.go_tokens.specs.declared.token.TokenKind.TheVariants as token
use Rattle.go_grammar.specs.declared.kind.Arithmetic.TheVariants as arithmetic
use Rattle.go_grammar.specs.declared.kind.Comparison.TheVariants as comparison
use Rattle.go_grammar.specs.declared.kind.Operator.{Operator}
use Rattle.go_grammar.specs.declared.kind.Operator.TheVariants as operator
use Rattle.go_grammar.specs.declared.kind.Sign.TheVariants as sign
use Rattle.go_grammar.specs.declared.kind.Step.TheVariants as step
use Rattle.go_grammar.specs.declared.kind.Kind.{Kind}
use Rattle.go_grammar.specs.declared.kind.Kind.TheVariants as kind
use Rattle.go_grammar.specs.declared.kind.Sort.{Sort}
use Rattle.go_grammar.specs.declared.kind.Sort.TheVariants as sort
use Rattle.go_grammar.specs.declared.kind.Level.{Level}
use Rattle.go_grammar.specs.declared.kind.Level.TheVariants as level
use Rattle.go_grammar.specs.declared.kind.Place.{Place}
use Rattle.go_grammar.specs.declared.kind.Place.TheVariants as place
use Rattle.go_grammar.specs.declared.kind.Category.{Category}
use Rattle.go_grammar.specs.declared.kind.Category.TheVariants as category
use Rattle.go_grammar.specs.declared.items.Turn.{Turn}
use Rattle.go_grammar.specs.declared.items.Turn.TheVariants.{Stop, Pass, Item}
use Rattle.go_grammar.specs.declared.items.Next.{Next}
use Rattle.go_grammar.specs.declared.items.Next.TheVariants.{On, Done, Wrong}
use Rattle.go_grammar.specs.Operators.{rank, operator_level}
use Rattle.go_grammar.specs.Categories.{tightness, is_expression, is_literal_type, is_simple, is_type, within, place_of}
use Rattle.go_grammar.specs.Rules.{Items, Lines, Open, Each, Again, Rule, End, Then, Maybe, Unless, Many, item}
use Rattle.go_grammar.specs.Grammar.{rule, agrees, ends}
use Rattle.go_grammar.specs.Trees.{Tree, node, Trees, none, more, skip, kind_of, first, last, parts, weight, depth}
use Rattle.go_grammar.specs.Words.{is_word, is_among}

-- the kind of operand or unary expression that a token opens
abbrev pub opened_expression : TokenKind → Option Kind
opened_expression token.Identifier = Some kind.Name
opened_expression token.Integer = Some kind.Integer
opened_expression token.Rune = Some kind.Rune
opened_expression token.Text = Some kind.Text
opened_expression token.LeftParenthesis = Some kind.Parenthesized
opened_expression token.LeftBracket = Some kind.SequenceType
opened_expression token.Func = Some kind.FunctionType
opened_expression token.Struct = Some kind.StructType
opened_expression token.Plus = Some (kind.Unary sign.Plus)
opened_expression token.Minus = Some (kind.Unary sign.Minus)
opened_expression token.Not = Some (kind.Unary sign.Not)
opened_expression token.Caret = Some (kind.Unary sign.Complement)
opened_expression w = None

abbrev pub opened_type : TokenKind → Option Kind
opened_type token.Identifier = Some kind.Name
opened_type token.LeftParenthesis = Some kind.ParenthesizedType
opened_type token.LeftBracket = Some kind.SequenceType
opened_type token.Func = Some kind.FunctionType
opened_type token.Struct = Some kind.StructType
opened_type w = None

-- the kind k before the word w
abbrev pub opened_by : TokenKind → Kind → TokenKind → Option Kind
opened_by w k v = if is_word (Some v) w then Some k else None

abbrev pub opened_specification : Sort → TokenKind → Option Kind
opened_specification sort.Type w = opened_by token.Identifier (kind.Specification sort.Type) w
opened_specification s w = opened_by token.Identifier kind.DeclaredName w

abbrev pub opened_body : Sort → TokenKind → Option Kind
opened_body s token.LeftParenthesis = Some (kind.Group s)
opened_body s w = opened_specification s w

abbrev pub opened_import : TokenKind → Option Kind
opened_import token.Text = Some kind.ImportPath
opened_import token.LeftParenthesis = Some kind.ImportGroup
opened_import w = None

abbrev pub opened_declaration : TokenKind → Option Kind
opened_declaration token.Const = Some (kind.Declaration sort.Constant)
opened_declaration token.Type = Some (kind.Declaration sort.Type)
opened_declaration token.Var = Some (kind.Declaration sort.Variable)
opened_declaration token.Func = Some kind.FunctionDeclaration
opened_declaration w = None

abbrev pub opened_rest : TokenKind → Option Kind
opened_rest token.Assign = Some kind.Values
opened_rest w = opened_type w

abbrev pub opened_result : TokenKind → Option Kind
opened_result token.LeftParenthesis = Some kind.Results
opened_result w = opened_type w

abbrev pub opened_literal_type : TokenKind → Option Kind
opened_literal_type token.Identifier = Some kind.Name
opened_literal_type token.LeftBracket = Some kind.SequenceType
opened_literal_type token.Struct = Some kind.StructType
opened_literal_type w = None

abbrev pub opened_bracket : TokenKind → Option Kind
opened_bracket token.Colon = Some kind.Bounds
opened_bracket w = opened_expression w

abbrev pub opened_element : TokenKind → Option Kind
opened_element token.LeftBrace = Some kind.LiteralValue
opened_element w = opened_expression w

abbrev pub opened_statement : TokenKind → Option Kind
opened_statement token.Const = Some (kind.Declaration sort.Constant)
opened_statement token.Type = Some (kind.Declaration sort.Type)
opened_statement token.Var = Some (kind.Declaration sort.Variable)
opened_statement token.Return = Some kind.Return
opened_statement token.Break = Some kind.Break
opened_statement token.Continue = Some kind.Continue
opened_statement token.Fallthrough = Some kind.Fallthrough
opened_statement token.LeftBrace = Some kind.Block
opened_statement token.If = Some kind.If
opened_statement token.Switch = Some kind.Switch
opened_statement token.For = Some kind.For
opened_statement w = opened_expression w

abbrev pub opened_branch : TokenKind → Option Kind
opened_branch token.If = Some kind.If
opened_branch token.LeftBrace = Some kind.Block
opened_branch w = None

abbrev pub opened_condition : TokenKind → Option Kind
opened_condition token.Semicolon = Some kind.LateCondition
opened_condition w = opened_expression w

abbrev pub opened_tag : TokenKind → Option Kind
opened_tag token.Semicolon = Some kind.LateTag
opened_tag w = opened_expression w

abbrev pub opened_loop : TokenKind → Option Kind
opened_loop token.Semicolon = Some kind.ForClause
opened_loop token.Range = Some kind.Range
opened_loop w = opened_expression w

abbrev pub opened_clause : TokenKind → Option Kind
opened_clause token.Case = Some kind.Case
opened_clause token.Default = Some kind.Default
opened_clause w = None

-- the kind of the node that a text of the category opens with
abbrev pub opens : Category → TokenKind → Option Kind
opens category.File w = opened_by token.Package kind.File w
opens category.Imports w = opened_by token.Import kind.Import w
opens category.Import w = opened_by token.Import kind.Import w
opens category.ImportBody w = opened_import w
opens category.ImportPath w = opened_by token.Text kind.ImportPath w
opens category.Declaration w = opened_declaration w
opens (category.DeclarationBody s) w = opened_body s w
opens (category.Specification s) w = opened_specification s w
opens category.NameList w = opened_by token.Identifier kind.DeclaredName w
opens category.DeclaredName w = opened_by token.Identifier kind.DeclaredName w
opens category.ConstantRest w = opened_rest w
opens category.VariableRest w = opened_rest w
opens category.Signature w = opened_by token.LeftParenthesis kind.Parameters w
opens category.Parameters w = opened_by token.LeftParenthesis kind.Parameters w
opens category.Entry w = opened_type w
opens category.Result w = opened_result w
opens category.Type w = opened_type w
opens category.Fields w = opened_by token.Identifier kind.DeclaredName w
opens (category.Expression l p) w = opened_expression w
opens (category.LiteralType p) w = opened_literal_type w
opens category.Name w = opened_by token.Identifier kind.Name w
opens category.Bracket w = opened_bracket w
opens category.Element w = opened_element w
opens category.Value w = opened_element w
opens (category.ExpressionList p) w = opened_expression w
opens (category.LeftList p) w = opened_expression w
opens (category.Targets p) w = opened_expression w
opens (category.NewNames p) w = opened_expression w
opens category.Block w = opened_by token.LeftBrace kind.Block w
opens category.Statement w = opened_statement w
opens category.Simple w = opened_expression w
opens category.Post w = opened_expression w
opens category.Else w = opened_by token.Else kind.Else w
opens category.Branch w = opened_branch w
opens category.IfHeader w = opened_condition w
opens category.SwitchHeader w = opened_tag w
opens category.ForHeader w = opened_loop w
opens category.Clause w = opened_clause w

abbrev pub opens_before : Category → Option TokenKind → Option Kind
opens_before c w = w >>= opens c

abbrev pub is_some : {A : Type 0} → Option A → Bool
is_some None = false
is_some (Some x) = true

-- a text of the category may begin with the token
abbrev pub begins : Category → Option TokenKind → Bool
begins c w = is_some (opens_before c w)

-- the operator that a token is, between operands
abbrev pub operator_of : TokenKind → Option Operator
operator_of token.LogicalOr = Some operator.Either
operator_of token.LogicalAnd = Some operator.Both
operator_of token.Equal = Some (operator.Compare comparison.Equal)
operator_of token.NotEqual = Some (operator.Compare comparison.NotEqual)
operator_of token.Less = Some (operator.Compare comparison.Less)
operator_of token.LessEqual = Some (operator.Compare comparison.LessEqual)
operator_of token.Greater = Some (operator.Compare comparison.Greater)
operator_of token.GreaterEqual = Some (operator.Compare comparison.GreaterEqual)
operator_of token.Plus = Some (operator.Compute arithmetic.Add)
operator_of token.Minus = Some (operator.Compute arithmetic.Subtract)
operator_of token.Bar = Some (operator.Compute arithmetic.Or)
operator_of token.Caret = Some (operator.Compute arithmetic.Xor)
operator_of token.Star = Some (operator.Compute arithmetic.Multiply)
operator_of token.Slash = Some (operator.Compute arithmetic.Divide)
operator_of token.Percent = Some (operator.Compute arithmetic.Remainder)
operator_of token.ShiftLeft = Some (operator.Compute arithmetic.ShiftLeft)
operator_of token.ShiftRight = Some (operator.Compute arithmetic.ShiftRight)
operator_of token.Ampersand = Some (operator.Compute arithmetic.And)
operator_of token.AndNot = Some (operator.Compute arithmetic.AndNot)
operator_of w = None

-- the kind of primary expression that a token makes of one in front of it
abbrev pub suffix : TokenKind → Option Kind
suffix token.Period = Some kind.Selector
suffix token.LeftBracket = Some kind.Bracketed
suffix token.LeftParenthesis = Some kind.Call
suffix w = None

-- The kind of binary expression that an expression with the tightness t in front of the operator becomes, where at least the
-- level l is asked for.
abbrev pub joined_by : Level → ℕ → Option Operator → Option Kind
joined_by l t None = None
joined_by l t (Some o) = if nat_le (rank l) (rank (operator_level o)) && nat_le (rank (operator_level o)) t then Some (kind.Binary o) else None

abbrev pub or_else : Option Kind → Option Kind → Option Kind
or_else None b = b
or_else (Some k) b = Some k

-- what an expression of kind k becomes before the token
abbrev pub extended : Level → Place → Kind → TokenKind → Option Kind
extended l p k token.LeftBrace = if is_literal_type p k then Some kind.Composite else None
extended l p k w = or_else (if nat_le 7 (tightness k) then suffix w else None) (joined_by l (tightness k) (operator_of w))

abbrev pub extends : Level → Place → Kind → Option TokenKind → Option Kind
extends l p k None = None
extends l p k (Some w) = if is_expression k then extended l p k w else None

abbrev pub assigned : TokenKind → Option Kind
assigned token.PlusAssign = Some (kind.OperatorAssignment arithmetic.Add)
assigned token.MinusAssign = Some (kind.OperatorAssignment arithmetic.Subtract)
assigned token.BarAssign = Some (kind.OperatorAssignment arithmetic.Or)
assigned token.CaretAssign = Some (kind.OperatorAssignment arithmetic.Xor)
assigned token.StarAssign = Some (kind.OperatorAssignment arithmetic.Multiply)
assigned token.SlashAssign = Some (kind.OperatorAssignment arithmetic.Divide)
assigned token.PercentAssign = Some (kind.OperatorAssignment arithmetic.Remainder)
assigned token.ShiftLeftAssign = Some (kind.OperatorAssignment arithmetic.ShiftLeft)
assigned token.ShiftRightAssign = Some (kind.OperatorAssignment arithmetic.ShiftRight)
assigned token.AmpersandAssign = Some (kind.OperatorAssignment arithmetic.And)
assigned token.AndNotAssign = Some (kind.OperatorAssignment arithmetic.AndNot)
assigned token.Increment = Some (kind.StepStatement step.Increment)
assigned token.Decrement = Some (kind.StepStatement step.Decrement)
assigned token.Assign = Some kind.ExpressionList
assigned token.Define = Some kind.ExpressionList
assigned token.Comma = Some kind.ExpressionList
assigned w = None

-- what a whole expression at the head of a statement becomes, if anything other than d
abbrev pub headed : Option Kind → Option TokenKind → Option Kind
headed d None = d
headed d (Some w) = or_else (assigned w) d

-- what a list of expressions at the head of a statement becomes
abbrev pub listed : Option TokenKind → Option Kind
listed (Some token.Assign) = Some kind.Targets
listed (Some token.Define) = Some kind.NewNames
listed w = None

-- what a whole expression becomes
abbrev pub whole : Kind → Option Kind → Option Kind
whole k o = if is_expression k then o else None

-- what a list of expressions, alone or with `=` or `:=`, becomes at the head of a statement
abbrev pub begun : Kind → Option TokenKind → Option Kind
begun kind.ExpressionList w = listed w
begun kind.Targets w = Some kind.Assignment
begun kind.NewNames w = Some kind.Define
begun k w = None

-- What a finished node of kind k at the head of a statement becomes; d is what a whole expression becomes.
abbrev pub stated : Place → Option Kind → Kind → Option TokenKind → Option Kind
stated p d k w = or_else (begun k w) (or_else (extends level.Either p k w) (whole k (headed d w)))

-- what a whole expression at the head of a header becomes
abbrev pub condition_or_statement : Option TokenKind → Option Kind
condition_or_statement (Some token.Semicolon) = Some kind.ExpressionStatement
condition_or_statement w = None

abbrev pub ranged : Kind → Kind → Option TokenKind → Option Kind
ranged a b (Some token.Range) = Some a
ranged a b w = Some b

-- What a finished node of kind k in a header becomes; a simple statement becomes b.
abbrev pub headed_by : Kind → Kind → Option TokenKind → Option Kind
headed_by b k w = if is_simple k then Some b else stated place.Header (condition_or_statement w) k w

-- what a list with `=` or `:=` in a loop's header becomes
abbrev pub looping : Kind → Option TokenKind → Option Kind
looping kind.Targets w = ranged kind.AssigningRange kind.Assignment w
looping kind.NewNames w = ranged kind.DefiningRange kind.Define w
looping k w = None

-- what a finished node of kind k in a loop's header becomes
abbrev pub looped : Kind → Option TokenKind → Option Kind
looped k w = or_else (looping k w) (headed_by kind.InitializedForClause k w)

-- what a finished node of kind k in a list of names becomes
abbrev pub named : Kind → Kind → Option Kind
named s kind.DeclaredName = Some kind.NameList
named s kind.NameList = Some s
named s k = None

-- in a list of expressions
abbrev pub listing : Place → Kind → Option TokenKind → Option Kind
listing p k w = or_else (extends level.Either p k w) (whole k (Some kind.ExpressionList))

abbrev pub at_word : TokenKind → Kind → Option TokenKind → Option Kind
at_word v k w = if is_word w v then Some k else None

-- in a list in front of `=` or `:=`, which becomes l once it is whole
abbrev pub assigning : Kind → Place → Kind → Option TokenKind → Option Kind
assigning l p kind.ExpressionList w = Some l
assigning l p k w = listing p k w

-- in an element of a composite literal
abbrev pub keyed : Kind → Option TokenKind → Option Kind
keyed kind.Name w = or_else (extends level.Either place.Free kind.Name w) (at_word token.Colon kind.Keyed w)
keyed k w = extends level.Either place.Free k w

-- in an entry of parameters
abbrev pub entered : Kind → Option TokenKind → Option Kind
entered kind.Name w = if begins category.Type w then Some kind.Parameter else None
entered k w = None

-- what a type becomes
abbrev pub typed : Kind → Option Kind → Option Kind
typed k o = if is_type k then o else None

abbrev pub imported : Kind → Option Kind
imported kind.Import = Some kind.Imports
imported k = None

abbrev pub signed : Kind → Option Kind
signed kind.Parameters = Some kind.Signature
signed k = None

abbrev pub declared : Kind → Option Kind
declared kind.DeclaredName = Some kind.NameList
declared k = None

-- The kind of node that a finished node of kind k becomes the first part of, on the way to the category, before the token w.
abbrev pub continues : Category → Kind → Option TokenKind → Option Kind
continues category.Imports k w = imported k
continues (category.DeclarationBody s) k w = named (kind.Specification s) k
continues (category.Specification s) k w = named (kind.Specification s) k
continues category.NameList k w = declared k
continues category.ConstantRest k w = typed k (Some kind.TypedValues)
continues category.VariableRest k w = typed k (at_word token.Assign kind.TypedValues w)
continues category.Signature k w = signed k
continues category.Entry k w = entered k w
continues category.Fields k w = named kind.Fields k
continues (category.Expression l p) k w = extends l p k w
continues category.Bracket k w = or_else (extends level.Either place.Free k w) (whole k (at_word token.Colon kind.BoundsFrom w))
continues category.Element k w = keyed k w
continues category.Value k w = extends level.Either place.Free k w
continues (category.ExpressionList p) k w = listing p k w
continues (category.LeftList p) k w = listing p k w
continues (category.Targets p) k w = assigning kind.Targets p k w
continues (category.NewNames p) k w = assigning kind.NewNames p k w
continues category.Statement k w = stated place.Free (Some kind.ExpressionStatement) k w
continues category.Simple k w = stated place.Header (Some kind.ExpressionStatement) k w
continues category.Post k w = stated place.Header (Some kind.ExpressionStatement) k w
continues category.IfHeader k w = headed_by kind.InitializedCondition k w
continues category.SwitchHeader k w = headed_by kind.InitializedTag k w
continues category.ForHeader k w = looped k w
continues c k w = None

-- a node of the kind may be the first part of a node with this right side, before the token w
abbrev pub fits : Rule → Kind → Option TokenKind → Bool
fits (Then [] c r) k w = within c k && ends c k w
fits r k w = false

abbrev pub after_first : Rule → Rule
after_first (Then ws c r) = r
after_first r = r

abbrev pub words : List TokenKind → ℕ → List TokenKind → Option ℕ
words ts i [] = Some i
words ts i (w ∷ ws) = if is_word (slice_get ts i) w then words ts (suc i) ws else None

-- a part in front
abbrev pub front : Tree → Trees × ℕ → Option (Trees × ℕ)
front p (ps, j) = Some (more p ps, j)

-- a part that is left out in front
abbrev pub gap : Trees × ℕ → Option (Trees × ℕ)
gap (ps, j) = Some (skip ps, j)

abbrev pub turn : Items → Option TokenKind → Turn
turn (Lines b c s e) w = if is_word w e then Stop else (if b && is_word w s then Pass else Item)
turn (Open c s) w = if is_word w s then Pass else (if begins c w then Item else Stop)
turn (Each c us vs) w = if begins c w then Item else Stop
turn (Again c s) w = if is_word w s then Item else Stop

-- the words behind the last item
abbrev pub closing : Items → List TokenKind
closing (Lines b c s e) = e ∷ []
closing (Open c s) = []
closing (Each c us vs) = vs
closing (Again c s) = []

-- where the item begins
abbrev pub lead : Items → ℕ → ℕ
lead (Again c s) i = suc i
lead l i = i

abbrev pub on : Option ℕ → Next
on None = Wrong
on (Some k) = On k

abbrev pub next : List TokenKind → Items → ℕ → Next
next ts (Lines b c s e) i = if is_word (slice_get ts i) s then On (suc i) else (if is_word (slice_get ts i) e then Done (suc i) else Wrong)
next ts (Open c s) i = if is_word (slice_get ts i) s then On (suc i) else (if is_word (slice_get ts i) token.RightBrace then Done i else Wrong)
next ts (Each c us vs) i = on (words ts i us)
next ts (Again c s) i = On i

abbrev mutual
  -- the tree of the category that begins at i
  pub read : ℕ → List TokenKind → ℕ → Category → ℕ → Option Tree
  read zero ts m c i = None
  read (suc n) ts m c i = opens_before c (slice_get ts i) >>= λ k. if nat_le (weight k) m then (spell n ts (m - weight k) (rule (place_of c) k) i >>= λ x. made n ts m c (node k i x.1 x.0)) else None

  -- the tree that a node grows into, if its parts agree
  pub made : ℕ → List TokenKind → ℕ → Category → Tree → Option Tree
  made zero ts m c t = None
  made (suc n) ts m c t = if agrees (kind_of t) (parts t) then grow n ts m c t else None

  -- the tree of the category that a finished node grows into
  pub grow : ℕ → List TokenKind → ℕ → Category → Tree → Option Tree
  grow zero ts m c t = None
  grow (suc n) ts m c t = grow_by n ts m c t (continues c (kind_of t) (slice_get ts (last t)))

  pub grow_by : ℕ → List TokenKind → ℕ → Category → Tree → Option Kind → Option Tree
  grow_by zero ts m c t o = None
  grow_by (suc n) ts m c t None = if within c (kind_of t) && ends c (kind_of t) (slice_get ts (last t)) then Some t else None
  grow_by (suc n) ts m c t (Some k) = if fits (rule (place_of c) k) (kind_of t) (slice_get ts (last t)) && nat_le (weight k + depth t) m then (spell n ts (m - weight k) (after_first (rule (place_of c) k)) (last t) >>= λ x. made n ts m c (node k (first t) x.1 (more t x.0))) else None

  -- the parts of a right side that begins at i, and the place behind it
  pub spell : ℕ → List TokenKind → ℕ → Rule → ℕ → Option (Trees × ℕ)
  spell zero ts m r i = None
  spell (suc n) ts m (End ws) i = words ts i ws >>= λ j. Some (none, j)
  spell (suc n) ts m (Then ws c r) i = words ts i ws >>= λ k. read n ts m c k >>= λ p. spell n ts m r (last p) >>= front p
  spell (suc n) ts m (Maybe ws c r) i = words ts i ws >>= λ k. option n ts m c r k (begins c (slice_get ts k))
  spell (suc n) ts m (Unless ws c us r) i = words ts i ws >>= λ k. option n ts m c r k (is_among (slice_get ts k) us)
  spell (suc n) ts m (Many ws l) i = words ts i ws >>= λ k. items n ts m l k

  -- a part, or none, and the rest
  pub option : ℕ → List TokenKind → ℕ → Category → Rule → ℕ → Bool → Option (Trees × ℕ)
  option zero ts m c r i b = None
  option (suc n) ts m c r i true = read n ts m c i >>= λ p. spell n ts m r (last p) >>= front p
  option (suc n) ts m c r i false = spell n ts m r i >>= gap

  -- items, from where one may begin
  pub items : ℕ → List TokenKind → ℕ → Items → ℕ → Option (Trees × ℕ)
  items zero ts m l i = None
  items (suc n) ts m l i = items_by n ts m l i (turn l (slice_get ts i))

  pub items_by : ℕ → List TokenKind → ℕ → Items → ℕ → Turn → Option (Trees × ℕ)
  items_by zero ts m l i t = None
  items_by (suc n) ts m l i Stop = words ts i (closing l) >>= λ j. Some (none, j)
  items_by (suc n) ts m l i Pass = items n ts m l (suc i)
  items_by (suc n) ts m l i Item = read n ts m (item l) (lead l i) >>= λ p. goes n ts m l (last p) >>= front p

  -- what follows an item
  pub goes : ℕ → List TokenKind → ℕ → Items → ℕ → Option (Trees × ℕ)
  goes zero ts m l i = None
  goes (suc n) ts m l i = goes_by n ts m l (next ts l i)

  pub goes_by : ℕ → List TokenKind → ℕ → Items → Next → Option (Trees × ℕ)
  goes_by zero ts m l x = None
  goes_by (suc n) ts m l (On i) = items n ts m l i
  goes_by (suc n) ts m l (Done j) = Some (none, j)
  goes_by (suc n) ts m l Wrong = None

-- from some bound on, f gives r
pub record Tends {A : Type 0} (f : ℕ → Option A) (r : Option A) : Type 0 where
  pub after : ℕ
  pub by : (n : ℕ) → after ≤ n → f n ≡ r
