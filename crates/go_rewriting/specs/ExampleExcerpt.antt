-- A worked example: two statements of a file, with the comment between them, as a text of their own.
use Rattle.std.specs.Prelude.{ℕ, List, [], ◌∷◌, ◌++◌, length, codes}
use Rattle.go_tokens.specs.declared.token.Token.{Token}
use Rattle.go_tokens.specs.declared.token.TokenKind.{TokenKind}
use Rattle.go_tokens.specs.declared.token.TokenKind.TheVariants as kinds_of
use Rattle.go_tokens.specs.Lexing.{token}
use Rattle.go_tokens.specs.Tokens.{kinds}
use Rattle.go_grammar.specs.declared.kind.Category.TheVariants as category
use Rattle.go_grammar.specs.Trees.{Tree, parts}
use Rattle.go_grammar.specs.Reader.{read}
use Rattle.go_rewriting.specs.Replacing.{moved, subtree_at, Run}
use Rattle.go_rewriting.specs.Places.{carries}
use Rattle.go_rewriting.specs.Lists.{in_block, run_at}
use Rattle.go_rewriting.specs.Excerpts.{Excerpt}
use Rattle.go_rewriting.specs.Rewriting.{own}
use Rattle.go_rewriting.specs.Readings.{tree_in}

abbrev pub whole_text : List ℕ
whole_text = codes "package main\n\nfunc f(a int) int {\n\tb := a + 1 // one more\n\tb = b * 2\n\treturn b\n}\n"

abbrev pub old_tokens : List Token
old_tokens = token 0 kinds_of.Package 0 7 ∷ token 0 kinds_of.Identifier 8 4 ∷ token 0 kinds_of.Semicolon 12 0 ∷ token 0 kinds_of.Func 14 4 ∷ token 0 kinds_of.Identifier 19 1 ∷ token 0 kinds_of.LeftParenthesis 20 1 ∷ token 0 kinds_of.Identifier 21 1 ∷ token 0 kinds_of.Identifier 23 3 ∷ token 0 kinds_of.RightParenthesis 26 1 ∷ token 0 kinds_of.Identifier 28 3 ∷ token 0 kinds_of.LeftBrace 32 1 ∷ token 0 kinds_of.Identifier 35 1 ∷ token 0 kinds_of.Define 37 2 ∷ token 0 kinds_of.Identifier 40 1 ∷ token 0 kinds_of.Plus 42 1 ∷ token 0 kinds_of.Integer 44 1 ∷ token 0 kinds_of.Semicolon 45 0 ∷ token 0 kinds_of.Identifier 59 1 ∷ token 0 kinds_of.Assign 61 1 ∷ token 0 kinds_of.Identifier 63 1 ∷ token 0 kinds_of.Star 65 1 ∷ token 0 kinds_of.Integer 67 1 ∷ token 0 kinds_of.Semicolon 68 0 ∷ token 0 kinds_of.Return 70 6 ∷ token 0 kinds_of.Identifier 77 1 ∷ token 0 kinds_of.Semicolon 78 0 ∷ token 0 kinds_of.RightBrace 79 1 ∷ token 0 kinds_of.Semicolon 80 0 ∷ []

abbrev pub file_kinds : List TokenKind
file_kinds = kinds_of.Package ∷ kinds_of.Identifier ∷ kinds_of.Semicolon ∷ kinds_of.Func ∷ kinds_of.Identifier ∷ kinds_of.LeftParenthesis ∷ kinds_of.Identifier ∷ kinds_of.Identifier ∷ kinds_of.RightParenthesis ∷ kinds_of.Identifier ∷ kinds_of.LeftBrace ∷ kinds_of.Identifier ∷ kinds_of.Define ∷ kinds_of.Identifier ∷ kinds_of.Plus ∷ kinds_of.Integer ∷ kinds_of.Semicolon ∷ kinds_of.Identifier ∷ kinds_of.Assign ∷ kinds_of.Identifier ∷ kinds_of.Star ∷ kinds_of.Integer ∷ kinds_of.Semicolon ∷ kinds_of.Return ∷ kinds_of.Identifier ∷ kinds_of.Semicolon ∷ kinds_of.RightBrace ∷ kinds_of.Semicolon ∷ []

abbrev pub file_tree : Tree
file_tree = tree_in (read 60 file_kinds 101 category.File 0)

abbrev pub body : Tree
body = tree_in (subtree_at (1 ∷ 1 ∷ []) file_tree)

abbrev pub statements_text : List ℕ
statements_text = codes "b := a + 1 // one more\n\tb = b * 2"

pub record ExcerptExample : Type 0 where
  pub found : Excerpt 0 whole_text old_tokens 11 22 (token 0 kinds_of.Integer 67 1) statements_text
  -- the two statements of the body
  pub copied : Run (kinds (own found.stands.tokens) ++ kinds_of.Semicolon ∷ []) in_block (carries (moved 11 0) (run_at 0 1 (parts body))) 0 (length (kinds (own found.stands.tokens)))
