-- A worked example: in a function a parameter takes the place of a constant.
use Rattle.std.specs.Prelude.{◌≡◌, ℕ, List, [], ◌∷◌, codes}
use Rattle.go_tokens.specs.declared.token.Token.{Token}
use Rattle.go_tokens.specs.declared.token.TokenKind.{TokenKind}
use Rattle.go_tokens.specs.declared.token.TokenKind.TheVariants as kinds_of
use Rattle.go_tokens.specs.Lexing.{token}
use Rattle.go_tokens.specs.Editing.{new_text}
use Rattle.go_grammar.specs.declared.kind.Level.TheVariants as level
use Rattle.go_grammar.specs.declared.kind.Place.TheVariants as place
use Rattle.go_grammar.specs.declared.kind.Category.TheVariants as category
use Rattle.go_grammar.specs.Trees.{Tree}
use Rattle.go_grammar.specs.Reader.{read}
use Rattle.go_rewriting.specs.Sites.{whole}
use Rattle.go_rewriting.specs.Rewriting.{Rewrite, edits, NewDeclaration}
use Rattle.go_rewriting.specs.Readings.{tree_in, read_at}

abbrev pub old_tokens : List Token
old_tokens = token 0 kinds_of.Func 1 4 ∷ token 0 kinds_of.Identifier 6 6 ∷ token 0 kinds_of.LeftParenthesis 12 1 ∷ token 0 kinds_of.Identifier 13 1 ∷ token 0 kinds_of.Identifier 15 3 ∷ token 0 kinds_of.Comma 18 1 ∷ token 0 kinds_of.Identifier 20 2 ∷ token 0 kinds_of.Identifier 23 3 ∷ token 0 kinds_of.RightParenthesis 26 1 ∷ token 0 kinds_of.Identifier 28 3 ∷ token 0 kinds_of.LeftBrace 32 1 ∷ token 0 kinds_of.Identifier 34 1 ∷ token 0 kinds_of.Define 36 2 ∷ token 0 kinds_of.Identifier 39 1 ∷ token 0 kinds_of.Plus 41 1 ∷ token 0 kinds_of.Integer 43 1 ∷ token 0 kinds_of.Semicolon 44 0 ∷ token 0 kinds_of.Identifier 58 1 ∷ token 0 kinds_of.Assign 60 1 ∷ token 0 kinds_of.Identifier 62 1 ∷ token 0 kinds_of.Star 64 1 ∷ token 0 kinds_of.Integer 66 1 ∷ token 0 kinds_of.Semicolon 67 0 ∷ token 0 kinds_of.Return 68 6 ∷ token 0 kinds_of.Identifier 75 1 ∷ token 0 kinds_of.Semicolon 76 0 ∷ token 0 kinds_of.RightBrace 77 1 ∷ token 0 kinds_of.Semicolon 78 0 ∷ []

abbrev pub file_kinds : List TokenKind
file_kinds = kinds_of.Func ∷ kinds_of.Identifier ∷ kinds_of.LeftParenthesis ∷ kinds_of.Identifier ∷ kinds_of.Identifier ∷ kinds_of.Comma ∷ kinds_of.Identifier ∷ kinds_of.Identifier ∷ kinds_of.RightParenthesis ∷ kinds_of.Identifier ∷ kinds_of.LeftBrace ∷ kinds_of.Identifier ∷ kinds_of.Define ∷ kinds_of.Identifier ∷ kinds_of.Plus ∷ kinds_of.Integer ∷ kinds_of.Semicolon ∷ kinds_of.Identifier ∷ kinds_of.Assign ∷ kinds_of.Identifier ∷ kinds_of.Star ∷ kinds_of.Integer ∷ kinds_of.Semicolon ∷ kinds_of.Return ∷ kinds_of.Identifier ∷ kinds_of.Semicolon ∷ kinds_of.RightBrace ∷ kinds_of.Semicolon ∷ []

abbrev pub file_tree : Tree
file_tree = tree_in (read 60 file_kinds 100 category.Declaration 0)

abbrev pub new1_text : List ℕ
new1_text = codes " p0 "

abbrev pub new1_tokens : List Token
new1_tokens = token 0 kinds_of.Identifier 1 2 ∷ token 0 kinds_of.Semicolon 3 0 ∷ []

abbrev pub next1 : List TokenKind
next1 = kinds_of.Semicolon ∷ []

abbrev pub all1 : List TokenKind
all1 = kinds_of.Identifier ∷ kinds_of.Semicolon ∷ []

abbrev pub rewrite1 : Rewrite
rewrite1 = record {
  kept = codes "\nfunc addmul(a int, p0 int) int {\nb := a + ";
  old = codes "1";
  from = 15;
  upto = 16;
  new = new1_text;
  alone = new1_tokens;
  path = 1 ∷ 0 ∷ 1 ∷ 0 ∷ 1 ∷ [];
  change = whole (tree_in (read_at all1 (category.Expression level.Product place.Free)));
  next = next1;
}

abbrev pub rewrites : List Rewrite
rewrites = rewrite1 ∷ []

abbrev pub rest_text : List ℕ
rest_text = codes " // one more\n\tb = b * 2\nreturn b\n}\n"

abbrev pub tail_text : List ℕ
tail_text = []

abbrev pub result_text : List ℕ
result_text = codes "\nfunc addmul(a int, p0 int) int {\nb := a +  p0  // one more\n\tb = b * 2\nreturn b\n}\n"

pub record ParameterExample : Type 0 where
  -- the text of the edits is this one
  pub whole_text : new_text (edits rewrites rest_text) tail_text ≡ result_text
  pub holds : NewDeclaration 0 old_tokens file_tree rewrites rest_text
