-- Two worked examples: both operands of a sum are replaced at once; and three runs of statements in two lists of a file, with a
-- declaration more.
use Rattle.std.specs.Prelude.{ℕ, suc, ◌+◌, List, [], ◌∷◌}
use Rattle.go_tokens.specs.declared.token.TokenKind.{TokenKind}
use Rattle.go_tokens.specs.declared.token.TokenKind.TheVariants as token
use Rattle.go_grammar.specs.declared.kind.Kind.TheVariants as kind
use Rattle.go_grammar.specs.declared.kind.Arithmetic.TheVariants as arithmetic
use Rattle.go_grammar.specs.declared.kind.Operator.TheVariants as operator
use Rattle.go_grammar.specs.declared.kind.Step.TheVariants as step
use Rattle.go_grammar.specs.declared.kind.Level.TheVariants as level
use Rattle.go_grammar.specs.declared.kind.Place.TheVariants as place
use Rattle.go_grammar.specs.declared.kind.Category.{Category}
use Rattle.go_grammar.specs.declared.kind.Category.TheVariants as category
use Rattle.go_grammar.specs.Trees.{Tree, node, none, more, skip}
use Rattle.go_grammar.specs.Grammar.{Derives, IsFile}

abbrev pub name : ℕ → Tree
name i = node kind.Name i (suc i) none

-- f()
abbrev pub call_words : List TokenKind
call_words = token.Identifier ∷ token.LeftParenthesis ∷ token.RightParenthesis ∷ []

abbrev pub call : ℕ → Tree
call i = node kind.Call i (i + 3) (more (name i) none)

-- f() + f()
abbrev pub new_sum_tokens : List TokenKind
new_sum_tokens = token.Identifier ∷ token.LeftParenthesis ∷ token.RightParenthesis ∷ token.Plus ∷ token.Identifier ∷ token.LeftParenthesis ∷ token.RightParenthesis ∷ []

abbrev pub new_sum : Tree
new_sum = node (kind.Binary (operator.Compute arithmetic.Add)) 0 7 (more (call 0) (more (call 4) none))

abbrev pub expression : Category
expression = category.Expression level.Either place.Free

abbrev pub signature : ℕ → Tree
signature i = node kind.Signature i (i + 2) (more (node kind.Parameters i (i + 2) none) (skip none))

abbrev pub count_up : ℕ → Tree
count_up i = node (kind.StepStatement step.Increment) i (i + 2) (more (name i) none)

abbrev pub count_down : ℕ → Tree
count_down i = node (kind.StepStatement step.Decrement) i (i + 2) (more (name i) none)

-- a call as a statement
abbrev pub called : ℕ → Tree
called i = node kind.ExpressionStatement i (i + 3) (more (call i) none)

-- package p; func f() { f(); f() }; func g() { for { f() } }; func h() { x++; x-- };
abbrev pub result_tokens : List TokenKind
result_tokens = token.Package ∷ token.Identifier ∷ token.Semicolon
    ∷ token.Func ∷ token.Identifier ∷ token.LeftParenthesis ∷ token.RightParenthesis ∷ token.LeftBrace
    ∷ token.Identifier ∷ token.LeftParenthesis ∷ token.RightParenthesis ∷ token.Semicolon
    ∷ token.Identifier ∷ token.LeftParenthesis ∷ token.RightParenthesis ∷ token.RightBrace ∷ token.Semicolon
    ∷ token.Func ∷ token.Identifier ∷ token.LeftParenthesis ∷ token.RightParenthesis ∷ token.LeftBrace
    ∷ token.For ∷ token.LeftBrace ∷ token.Identifier ∷ token.LeftParenthesis ∷ token.RightParenthesis ∷ token.RightBrace ∷ token.RightBrace ∷ token.Semicolon
    ∷ token.Func ∷ token.Identifier ∷ token.LeftParenthesis ∷ token.RightParenthesis ∷ token.LeftBrace
    ∷ token.Identifier ∷ token.Increment ∷ token.Semicolon ∷ token.Identifier ∷ token.Decrement ∷ token.RightBrace ∷ token.Semicolon ∷ []

abbrev pub result : Tree
result = node kind.File 0 42 (skip
    (more (node kind.FunctionDeclaration 3 16 (more (signature 5) (more (node kind.Block 7 16 (more (called 8) (more (called 12) none))) none)))
    (more (node kind.FunctionDeclaration 17 29 (more (signature 19) (more (node kind.Block 21 29 (more (node kind.For 22 28 (skip (more (node kind.Block 23 28 (more (called 24) none)) none))) none)) none)))
    (more (node kind.FunctionDeclaration 30 41 (more (signature 32) (more (node kind.Block 34 41 (more (count_up 35) (more (count_down 38) none))) none))) none))))

pub record DerivationExamples : Type 0 where
  -- both operands at once
  pub both_operands : Derives new_sum_tokens expression new_sum
  -- two runs in one list and a run in another, and a function at the end
  pub three_runs : IsFile result_tokens result
