-- A worked example: a function is made of a header, statements that are copied with the comment in them, and a `return`.
use Rattle.std.specs.Prelude.{◌≡◌, ℕ, List, [], ◌∷◌, codes}
use Rattle.go_tokens.specs.declared.token.Token.{Token}
use Rattle.go_tokens.specs.declared.token.TokenKind.{TokenKind}
use Rattle.go_tokens.specs.declared.token.TokenKind.TheVariants as kinds_of
use Rattle.go_tokens.specs.Lexing.{token}
use Rattle.go_tokens.specs.Editing.{new_text}
use Rattle.go_grammar.specs.declared.kind.Category.TheVariants as category
use Rattle.go_grammar.specs.Trees.{Tree}
use Rattle.go_grammar.specs.Reader.{read}
use Rattle.go_rewriting.specs.Sites.{items}
use Rattle.go_rewriting.specs.Rewriting.{Rewrite, edits, NewDeclaration}
use Rattle.go_rewriting.specs.Readings.{tree_in, statement_at, statements}

abbrev pub old_tokens : List Token
old_tokens = token 0 kinds_of.Func 1 4 ∷ token 0 kinds_of.Identifier 6 6 ∷ token 0 kinds_of.LeftParenthesis 12 1 ∷ token 0 kinds_of.Identifier 13 1 ∷ token 0 kinds_of.Identifier 15 3 ∷ token 0 kinds_of.Comma 18 1 ∷ token 0 kinds_of.Identifier 20 2 ∷ token 0 kinds_of.Identifier 23 3 ∷ token 0 kinds_of.RightParenthesis 26 1 ∷ token 0 kinds_of.Identifier 28 3 ∷ token 0 kinds_of.LeftBrace 32 1 ∷ token 0 kinds_of.Identifier 34 6 ∷ token 0 kinds_of.LeftParenthesis 40 1 ∷ token 0 kinds_of.RightParenthesis 41 1 ∷ token 0 kinds_of.Semicolon 42 0 ∷ token 0 kinds_of.Return 43 6 ∷ token 0 kinds_of.Identifier 50 1 ∷ token 0 kinds_of.Semicolon 51 0 ∷ token 0 kinds_of.RightBrace 52 1 ∷ token 0 kinds_of.Semicolon 53 0 ∷ []

abbrev pub file_kinds : List TokenKind
file_kinds = kinds_of.Func ∷ kinds_of.Identifier ∷ kinds_of.LeftParenthesis ∷ kinds_of.Identifier ∷ kinds_of.Identifier ∷ kinds_of.Comma ∷ kinds_of.Identifier ∷ kinds_of.Identifier ∷ kinds_of.RightParenthesis ∷ kinds_of.Identifier ∷ kinds_of.LeftBrace ∷ kinds_of.Identifier ∷ kinds_of.LeftParenthesis ∷ kinds_of.RightParenthesis ∷ kinds_of.Semicolon ∷ kinds_of.Return ∷ kinds_of.Identifier ∷ kinds_of.Semicolon ∷ kinds_of.RightBrace ∷ kinds_of.Semicolon ∷ []

abbrev pub file_tree : Tree
file_tree = tree_in (read 60 file_kinds 100 category.Declaration 0)

abbrev pub new1_text : List ℕ
new1_text = codes "b := a + 1 // one more\n\tb = b * 2"

abbrev pub new1_tokens : List Token
new1_tokens = token 0 kinds_of.Identifier 0 1 ∷ token 0 kinds_of.Define 2 2 ∷ token 0 kinds_of.Identifier 5 1 ∷ token 0 kinds_of.Plus 7 1 ∷ token 0 kinds_of.Integer 9 1 ∷ token 0 kinds_of.Semicolon 10 0 ∷ token 0 kinds_of.Identifier 24 1 ∷ token 0 kinds_of.Assign 26 1 ∷ token 0 kinds_of.Identifier 28 1 ∷ token 0 kinds_of.Star 30 1 ∷ token 0 kinds_of.Integer 32 1 ∷ token 0 kinds_of.Semicolon 33 0 ∷ []

abbrev pub next1 : List TokenKind
next1 = kinds_of.Semicolon ∷ []

abbrev pub all1 : List TokenKind
all1 = kinds_of.Identifier ∷ kinds_of.Define ∷ kinds_of.Identifier ∷ kinds_of.Plus ∷ kinds_of.Integer ∷ kinds_of.Semicolon ∷ kinds_of.Identifier ∷ kinds_of.Assign ∷ kinds_of.Identifier ∷ kinds_of.Star ∷ kinds_of.Integer ∷ kinds_of.Semicolon ∷ []

abbrev pub rewrite1 : Rewrite
rewrite1 = record {
  kept = codes "\nfunc addmul(a int, p0 int) int {\n";
  old = codes "addmul()";
  from = 11;
  upto = 14;
  new = new1_text;
  alone = new1_tokens;
  path = 1 ∷ [];
  change = items 0 0 (statements 1 (statement_at all1 0) all1);
  next = next1;
}

abbrev pub rewrites : List Rewrite
rewrites = rewrite1 ∷ []

abbrev pub rest_text : List ℕ
rest_text = codes "\nreturn b\n}\n"

abbrev pub tail_text : List ℕ
tail_text = []

abbrev pub result_text : List ℕ
result_text = codes "\nfunc addmul(a int, p0 int) int {\nb := a + 1 // one more\n\tb = b * 2\nreturn b\n}\n"

pub record FunctionExample : Type 0 where
  -- the text of the edits is this one
  pub whole_text : new_text (edits rewrites rest_text) tail_text ≡ result_text
  pub holds : NewDeclaration 0 old_tokens file_tree rewrites rest_text
