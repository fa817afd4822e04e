-- A worked example: in two functions the same two statements are replaced by a call, and the function that is called is
-- appended.
use Rattle.std.specs.Prelude.{◌≡◌, ℕ, List, [], ◌∷◌, Some, codes}
use Rattle.std.specs.Str.{encode_utf8_all}
use Rattle.go_tokens.specs.declared.token.Token.{Token}
use Rattle.go_tokens.specs.declared.token.TokenKind.{TokenKind}
use Rattle.go_tokens.specs.declared.token.TokenKind.TheVariants as kinds_of
use Rattle.go_tokens.specs.Lexing.{token}
use Rattle.go_tokens.specs.Editing.{new_text}
use Rattle.go_grammar.specs.declared.kind.Category.TheVariants as category
use Rattle.go_grammar.specs.Trees.{Tree}
use Rattle.go_grammar.specs.Reader.{read}
use Rattle.go_rewriting.specs.Sites.{items}
use Rattle.go_rewriting.specs.Rewriting.{Rewrite, edits, NewFile}
use Rattle.go_rewriting.specs.Readings.{tree_in, statement_at, statements}

abbrev pub old_tokens : List Token
old_tokens = token 0 kinds_of.Package 0 7 ∷ token 0 kinds_of.Identifier 8 4 ∷ token 0 kinds_of.Semicolon 12 0 ∷ token 0 kinds_of.Func 14 4 ∷ token 0 kinds_of.Identifier 19 1 ∷ token 0 kinds_of.LeftParenthesis 20 1 ∷ token 0 kinds_of.Identifier 21 1 ∷ token 0 kinds_of.Identifier 23 3 ∷ token 0 kinds_of.RightParenthesis 26 1 ∷ token 0 kinds_of.Identifier 28 3 ∷ token 0 kinds_of.LeftBrace 32 1 ∷ token 0 kinds_of.Identifier 35 1 ∷ token 0 kinds_of.Define 37 2 ∷ token 0 kinds_of.Identifier 40 1 ∷ token 0 kinds_of.Plus 42 1 ∷ token 0 kinds_of.Integer 44 1 ∷ token 0 kinds_of.Semicolon 45 0 ∷ token 0 kinds_of.Identifier 47 1 ∷ token 0 kinds_of.Assign 49 1 ∷ token 0 kinds_of.Identifier 51 1 ∷ token 0 kinds_of.Star 53 1 ∷ token 0 kinds_of.Integer 55 1 ∷ token 0 kinds_of.Semicolon 56 0 ∷ token 0 kinds_of.Return 58 6 ∷ token 0 kinds_of.Identifier 65 1 ∷ token 0 kinds_of.Semicolon 66 0 ∷ token 0 kinds_of.RightBrace 67 1 ∷ token 0 kinds_of.Semicolon 68 0 ∷ token 0 kinds_of.Func 70 4 ∷ token 0 kinds_of.Identifier 75 1 ∷ token 0 kinds_of.LeftParenthesis 76 1 ∷ token 0 kinds_of.Identifier 77 1 ∷ token 0 kinds_of.Identifier 79 3 ∷ token 0 kinds_of.RightParenthesis 82 1 ∷ token 0 kinds_of.Identifier 84 3 ∷ token 0 kinds_of.LeftBrace 88 1 ∷ token 0 kinds_of.Identifier 91 1 ∷ token 0 kinds_of.Define 93 2 ∷ token 0 kinds_of.Identifier 96 1 ∷ token 0 kinds_of.Plus 98 1 ∷ token 0 kinds_of.Integer 100 1 ∷ token 0 kinds_of.Semicolon 101 0 ∷ token 0 kinds_of.Identifier 103 1 ∷ token 0 kinds_of.Assign 105 1 ∷ token 0 kinds_of.Identifier 107 1 ∷ token 0 kinds_of.Star 109 1 ∷ token 0 kinds_of.Integer 111 1 ∷ token 0 kinds_of.Semicolon 112 0 ∷ token 0 kinds_of.Return 114 6 ∷ token 0 kinds_of.Identifier 121 1 ∷ token 0 kinds_of.Semicolon 122 0 ∷ token 0 kinds_of.RightBrace 123 1 ∷ token 0 kinds_of.Semicolon 124 0 ∷ []

abbrev pub file_kinds : List TokenKind
file_kinds = kinds_of.Package ∷ kinds_of.Identifier ∷ kinds_of.Semicolon ∷ kinds_of.Func ∷ kinds_of.Identifier ∷ kinds_of.LeftParenthesis ∷ kinds_of.Identifier ∷ kinds_of.Identifier ∷ kinds_of.RightParenthesis ∷ kinds_of.Identifier ∷ kinds_of.LeftBrace ∷ kinds_of.Identifier ∷ kinds_of.Define ∷ kinds_of.Identifier ∷ kinds_of.Plus ∷ kinds_of.Integer ∷ kinds_of.Semicolon ∷ kinds_of.Identifier ∷ kinds_of.Assign ∷ kinds_of.Identifier ∷ kinds_of.Star ∷ kinds_of.Integer ∷ kinds_of.Semicolon ∷ kinds_of.Return ∷ kinds_of.Identifier ∷ kinds_of.Semicolon ∷ kinds_of.RightBrace ∷ kinds_of.Semicolon ∷ kinds_of.Func ∷ kinds_of.Identifier ∷ kinds_of.LeftParenthesis ∷ kinds_of.Identifier ∷ kinds_of.Identifier ∷ kinds_of.RightParenthesis ∷ kinds_of.Identifier ∷ kinds_of.LeftBrace ∷ kinds_of.Identifier ∷ kinds_of.Define ∷ kinds_of.Identifier ∷ kinds_of.Plus ∷ kinds_of.Integer ∷ kinds_of.Semicolon ∷ kinds_of.Identifier ∷ kinds_of.Assign ∷ kinds_of.Identifier ∷ kinds_of.Star ∷ kinds_of.Integer ∷ kinds_of.Semicolon ∷ kinds_of.Return ∷ kinds_of.Identifier ∷ kinds_of.Semicolon ∷ kinds_of.RightBrace ∷ kinds_of.Semicolon ∷ []

abbrev pub file_tree : Tree
file_tree = tree_in (read 60 file_kinds 101 category.File 0)

abbrev pub new1_text : List ℕ
new1_text = codes "var b int; b = addmul(a, 1)"

abbrev pub new1_tokens : List Token
new1_tokens = token 0 kinds_of.Var 0 3 ∷ token 0 kinds_of.Identifier 4 1 ∷ token 0 kinds_of.Identifier 6 3 ∷ token 0 kinds_of.Semicolon 9 1 ∷ token 0 kinds_of.Identifier 11 1 ∷ token 0 kinds_of.Assign 13 1 ∷ token 0 kinds_of.Identifier 15 6 ∷ token 0 kinds_of.LeftParenthesis 21 1 ∷ token 0 kinds_of.Identifier 22 1 ∷ token 0 kinds_of.Comma 23 1 ∷ token 0 kinds_of.Integer 25 1 ∷ token 0 kinds_of.RightParenthesis 26 1 ∷ token 0 kinds_of.Semicolon 27 0 ∷ []

abbrev pub next1 : List TokenKind
next1 = kinds_of.Semicolon ∷ []

abbrev pub all1 : List TokenKind
all1 = kinds_of.Var ∷ kinds_of.Identifier ∷ kinds_of.Identifier ∷ kinds_of.Semicolon ∷ kinds_of.Identifier ∷ kinds_of.Assign ∷ kinds_of.Identifier ∷ kinds_of.LeftParenthesis ∷ kinds_of.Identifier ∷ kinds_of.Comma ∷ kinds_of.Integer ∷ kinds_of.RightParenthesis ∷ kinds_of.Semicolon ∷ []

abbrev pub rewrite1 : Rewrite
rewrite1 = record {
  kept = codes "package main\n\nfunc f(a int) int {\n\t";
  old = codes "b := a + 1\n\tb = b * 2";
  from = 11;
  upto = 22;
  new = new1_text;
  alone = new1_tokens;
  path = 1 ∷ 1 ∷ [];
  change = items 0 1 (statements 1 (statement_at all1 0) all1);
  next = next1;
}

abbrev pub new2_text : List ℕ
new2_text = codes "var y int; y = addmul(x, 5)"

abbrev pub new2_tokens : List Token
new2_tokens = token 0 kinds_of.Var 0 3 ∷ token 0 kinds_of.Identifier 4 1 ∷ token 0 kinds_of.Identifier 6 3 ∷ token 0 kinds_of.Semicolon 9 1 ∷ token 0 kinds_of.Identifier 11 1 ∷ token 0 kinds_of.Assign 13 1 ∷ token 0 kinds_of.Identifier 15 6 ∷ token 0 kinds_of.LeftParenthesis 21 1 ∷ token 0 kinds_of.Identifier 22 1 ∷ token 0 kinds_of.Comma 23 1 ∷ token 0 kinds_of.Integer 25 1 ∷ token 0 kinds_of.RightParenthesis 26 1 ∷ token 0 kinds_of.Semicolon 27 0 ∷ []

abbrev pub next2 : List TokenKind
next2 = kinds_of.Semicolon ∷ []

abbrev pub all2 : List TokenKind
all2 = kinds_of.Var ∷ kinds_of.Identifier ∷ kinds_of.Identifier ∷ kinds_of.Semicolon ∷ kinds_of.Identifier ∷ kinds_of.Assign ∷ kinds_of.Identifier ∷ kinds_of.LeftParenthesis ∷ kinds_of.Identifier ∷ kinds_of.Comma ∷ kinds_of.Integer ∷ kinds_of.RightParenthesis ∷ kinds_of.Semicolon ∷ []

abbrev pub rewrite2 : Rewrite
rewrite2 = record {
  kept = codes "\n\treturn b\n}\n\nfunc g(x int) int {\n\t";
  old = codes "y := x + 5\n\ty = y * 2";
  from = 36;
  upto = 47;
  new = new2_text;
  alone = new2_tokens;
  path = 2 ∷ 1 ∷ [];
  change = items 0 1 (statements 1 (statement_at all2 0) all2);
  next = next2;
}

abbrev pub rewrites : List Rewrite
rewrites = rewrite1 ∷ rewrite2 ∷ []

abbrev pub rest_text : List ℕ
rest_text = codes "\n\treturn y\n}\n"

abbrev pub tail_text : List ℕ
tail_text = codes "\nfunc addmul(a int, p0 int) int {\nb := a +  p0 \n\tb = b * 2\nreturn b\n}\n"

abbrev pub tail_tokens : List Token
tail_tokens = token 0 kinds_of.Func 1 4 ∷ token 0 kinds_of.Identifier 6 6 ∷ token 0 kinds_of.LeftParenthesis 12 1 ∷ token 0 kinds_of.Identifier 13 1 ∷ token 0 kinds_of.Identifier 15 3 ∷ token 0 kinds_of.Comma 18 1 ∷ token 0 kinds_of.Identifier 20 2 ∷ token 0 kinds_of.Identifier 23 3 ∷ token 0 kinds_of.RightParenthesis 26 1 ∷ token 0 kinds_of.Identifier 28 3 ∷ token 0 kinds_of.LeftBrace 32 1 ∷ token 0 kinds_of.Identifier 34 1 ∷ token 0 kinds_of.Define 36 2 ∷ token 0 kinds_of.Identifier 39 1 ∷ token 0 kinds_of.Plus 41 1 ∷ token 0 kinds_of.Identifier 44 2 ∷ token 0 kinds_of.Semicolon 46 0 ∷ token 0 kinds_of.Identifier 49 1 ∷ token 0 kinds_of.Assign 51 1 ∷ token 0 kinds_of.Identifier 53 1 ∷ token 0 kinds_of.Star 55 1 ∷ token 0 kinds_of.Integer 57 1 ∷ token 0 kinds_of.Semicolon 58 0 ∷ token 0 kinds_of.Return 59 6 ∷ token 0 kinds_of.Identifier 66 1 ∷ token 0 kinds_of.Semicolon 67 0 ∷ token 0 kinds_of.RightBrace 68 1 ∷ token 0 kinds_of.Semicolon 69 0 ∷ []

abbrev pub tail_kinds : List TokenKind
tail_kinds = kinds_of.Func ∷ kinds_of.Identifier ∷ kinds_of.LeftParenthesis ∷ kinds_of.Identifier ∷ kinds_of.Identifier ∷ kinds_of.Comma ∷ kinds_of.Identifier ∷ kinds_of.Identifier ∷ kinds_of.RightParenthesis ∷ kinds_of.Identifier ∷ kinds_of.LeftBrace ∷ kinds_of.Identifier ∷ kinds_of.Define ∷ kinds_of.Identifier ∷ kinds_of.Plus ∷ kinds_of.Identifier ∷ kinds_of.Semicolon ∷ kinds_of.Identifier ∷ kinds_of.Assign ∷ kinds_of.Identifier ∷ kinds_of.Star ∷ kinds_of.Integer ∷ kinds_of.Semicolon ∷ kinds_of.Return ∷ kinds_of.Identifier ∷ kinds_of.Semicolon ∷ kinds_of.RightBrace ∷ kinds_of.Semicolon ∷ []

abbrev pub added : Tree
added = tree_in (read 60 tail_kinds 100 category.Declaration 0)

abbrev pub result_text : List ℕ
result_text = codes "package main\n\nfunc f(a int) int {\n\tvar b int; b = addmul(a, 1)\n\treturn b\n}\n\nfunc g(x int) int {\n\tvar y int; y = addmul(x, 5)\n\treturn y\n}\n\nfunc addmul(a int, p0 int) int {\nb := a +  p0 \n\tb = b * 2\nreturn b\n}\n"

pub record CallsExample : Type 0 where
  -- the text of the edits is this one
  pub whole_text : new_text (edits rewrites rest_text) tail_text ≡ result_text
  pub holds : NewFile 0 (encode_utf8_all result_text) old_tokens file_tree rewrites rest_text tail_text tail_tokens (Some added)
