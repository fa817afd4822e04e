-- A worked example: windows with a switch in them, and a function with a hole where a case was.
use Rattle.std.specs.Prelude.{◌≡◌, ℕ, List, [], ◌∷◌, Some, codes}
use Rattle.std.specs.Str.{encode_utf8_all}
use Rattle.go_tokens.specs.declared.token.Token.{Token}
use Rattle.go_tokens.specs.declared.token.TokenKind.{TokenKind}
use Rattle.go_tokens.specs.declared.token.TokenKind.TheVariants as kinds_of
use Rattle.go_tokens.specs.Lexing.{token}
use Rattle.go_tokens.specs.Editing.{new_text}
use Rattle.go_grammar.specs.declared.kind.Category.TheVariants as category
use Rattle.go_grammar.specs.Trees.{Tree}
use Rattle.go_grammar.specs.Reader.{read}
use Rattle.go_rewriting.specs.Sites.{items}
use Rattle.go_rewriting.specs.Rewriting.{Rewrite, edits, NewFile}
use Rattle.go_rewriting.specs.Readings.{tree_in, statement_at, statements}

abbrev pub old_tokens : List Token
old_tokens = token 0 kinds_of.Package 0 7 ∷ token 0 kinds_of.Identifier 8 1 ∷ token 0 kinds_of.Semicolon 9 0 ∷ token 0 kinds_of.Func 11 4 ∷ token 0 kinds_of.Identifier 16 1 ∷ token 0 kinds_of.LeftParenthesis 17 1 ∷ token 0 kinds_of.Identifier 18 1 ∷ token 0 kinds_of.Identifier 20 3 ∷ token 0 kinds_of.RightParenthesis 23 1 ∷ token 0 kinds_of.LeftBrace 25 1 ∷ token 0 kinds_of.Switch 28 6 ∷ token 0 kinds_of.Identifier 35 1 ∷ token 0 kinds_of.LeftBrace 37 1 ∷ token 0 kinds_of.Case 40 4 ∷ token 0 kinds_of.Minus 44 1 ∷ token 0 kinds_of.Integer 45 1 ∷ token 0 kinds_of.Colon 46 1 ∷ token 0 kinds_of.Identifier 50 1 ∷ token 0 kinds_of.Increment 51 2 ∷ token 0 kinds_of.Semicolon 53 0 ∷ token 0 kinds_of.RightBrace 55 1 ∷ token 0 kinds_of.Semicolon 56 0 ∷ token 0 kinds_of.Identifier 58 1 ∷ token 0 kinds_of.Decrement 59 2 ∷ token 0 kinds_of.Semicolon 61 0 ∷ token 0 kinds_of.RightBrace 62 1 ∷ token 0 kinds_of.Semicolon 63 0 ∷ token 0 kinds_of.Func 65 4 ∷ token 0 kinds_of.Identifier 70 1 ∷ token 0 kinds_of.LeftParenthesis 71 1 ∷ token 0 kinds_of.Identifier 72 1 ∷ token 0 kinds_of.Identifier 74 3 ∷ token 0 kinds_of.RightParenthesis 77 1 ∷ token 0 kinds_of.LeftBrace 79 1 ∷ token 0 kinds_of.Switch 82 6 ∷ token 0 kinds_of.Identifier 89 1 ∷ token 0 kinds_of.LeftBrace 91 1 ∷ token 0 kinds_of.Case 94 4 ∷ token 0 kinds_of.Minus 98 1 ∷ token 0 kinds_of.Integer 99 1 ∷ token 0 kinds_of.Colon 100 1 ∷ token 0 kinds_of.Identifier 104 1 ∷ token 0 kinds_of.Increment 105 2 ∷ token 0 kinds_of.Semicolon 107 0 ∷ token 0 kinds_of.RightBrace 109 1 ∷ token 0 kinds_of.Semicolon 110 0 ∷ token 0 kinds_of.Identifier 112 1 ∷ token 0 kinds_of.Decrement 113 2 ∷ token 0 kinds_of.Semicolon 115 0 ∷ token 0 kinds_of.RightBrace 116 1 ∷ token 0 kinds_of.Semicolon 117 0 ∷ []

abbrev pub file_kinds : List TokenKind
file_kinds = kinds_of.Package ∷ kinds_of.Identifier ∷ kinds_of.Semicolon ∷ kinds_of.Func ∷ kinds_of.Identifier ∷ kinds_of.LeftParenthesis ∷ kinds_of.Identifier ∷ kinds_of.Identifier ∷ kinds_of.RightParenthesis ∷ kinds_of.LeftBrace ∷ kinds_of.Switch ∷ kinds_of.Identifier ∷ kinds_of.LeftBrace ∷ kinds_of.Case ∷ kinds_of.Minus ∷ kinds_of.Integer ∷ kinds_of.Colon ∷ kinds_of.Identifier ∷ kinds_of.Increment ∷ kinds_of.Semicolon ∷ kinds_of.RightBrace ∷ kinds_of.Semicolon ∷ kinds_of.Identifier ∷ kinds_of.Decrement ∷ kinds_of.Semicolon ∷ kinds_of.RightBrace ∷ kinds_of.Semicolon ∷ kinds_of.Func ∷ kinds_of.Identifier ∷ kinds_of.LeftParenthesis ∷ kinds_of.Identifier ∷ kinds_of.Identifier ∷ kinds_of.RightParenthesis ∷ kinds_of.LeftBrace ∷ kinds_of.Switch ∷ kinds_of.Identifier ∷ kinds_of.LeftBrace ∷ kinds_of.Case ∷ kinds_of.Minus ∷ kinds_of.Integer ∷ kinds_of.Colon ∷ kinds_of.Identifier ∷ kinds_of.Increment ∷ kinds_of.Semicolon ∷ kinds_of.RightBrace ∷ kinds_of.Semicolon ∷ kinds_of.Identifier ∷ kinds_of.Decrement ∷ kinds_of.Semicolon ∷ kinds_of.RightBrace ∷ kinds_of.Semicolon ∷ []

abbrev pub file_tree : Tree
file_tree = tree_in (read 60 file_kinds 101 category.File 0)

abbrev pub new1_text : List ℕ
new1_text = codes "x = h(x, -3)"

abbrev pub new1_tokens : List Token
new1_tokens = token 0 kinds_of.Identifier 0 1 ∷ token 0 kinds_of.Assign 2 1 ∷ token 0 kinds_of.Identifier 4 1 ∷ token 0 kinds_of.LeftParenthesis 5 1 ∷ token 0 kinds_of.Identifier 6 1 ∷ token 0 kinds_of.Comma 7 1 ∷ token 0 kinds_of.Minus 9 1 ∷ token 0 kinds_of.Integer 10 1 ∷ token 0 kinds_of.RightParenthesis 11 1 ∷ token 0 kinds_of.Semicolon 12 0 ∷ []

abbrev pub next1 : List TokenKind
next1 = kinds_of.Semicolon ∷ []

abbrev pub all1 : List TokenKind
all1 = kinds_of.Identifier ∷ kinds_of.Assign ∷ kinds_of.Identifier ∷ kinds_of.LeftParenthesis ∷ kinds_of.Identifier ∷ kinds_of.Comma ∷ kinds_of.Minus ∷ kinds_of.Integer ∷ kinds_of.RightParenthesis ∷ kinds_of.Semicolon ∷ []

abbrev pub rewrite1 : Rewrite
rewrite1 = record {
  kept = codes "package p\n\nfunc f(x int) {\n\t";
  old = codes "switch x {\n\tcase-3:\n\t\tx++\n\t}\n\tx--";
  from = 10;
  upto = 24;
  new = new1_text;
  alone = new1_tokens;
  path = 1 ∷ 1 ∷ [];
  change = items 0 1 (statements 0 (statement_at all1 0) all1);
  next = next1;
}

abbrev pub new2_text : List ℕ
new2_text = codes "x = h(x, -4)"

abbrev pub new2_tokens : List Token
new2_tokens = token 0 kinds_of.Identifier 0 1 ∷ token 0 kinds_of.Assign 2 1 ∷ token 0 kinds_of.Identifier 4 1 ∷ token 0 kinds_of.LeftParenthesis 5 1 ∷ token 0 kinds_of.Identifier 6 1 ∷ token 0 kinds_of.Comma 7 1 ∷ token 0 kinds_of.Minus 9 1 ∷ token 0 kinds_of.Integer 10 1 ∷ token 0 kinds_of.RightParenthesis 11 1 ∷ token 0 kinds_of.Semicolon 12 0 ∷ []

abbrev pub next2 : List TokenKind
next2 = kinds_of.Semicolon ∷ []

abbrev pub all2 : List TokenKind
all2 = kinds_of.Identifier ∷ kinds_of.Assign ∷ kinds_of.Identifier ∷ kinds_of.LeftParenthesis ∷ kinds_of.Identifier ∷ kinds_of.Comma ∷ kinds_of.Minus ∷ kinds_of.Integer ∷ kinds_of.RightParenthesis ∷ kinds_of.Semicolon ∷ []

abbrev pub rewrite2 : Rewrite
rewrite2 = record {
  kept = codes "\n}\n\nfunc g(x int) {\n\t";
  old = codes "switch x {\n\tcase-4:\n\t\tx++\n\t}\n\tx--";
  from = 34;
  upto = 48;
  new = new2_text;
  alone = new2_tokens;
  path = 2 ∷ 1 ∷ [];
  change = items 0 1 (statements 0 (statement_at all2 0) all2);
  next = next2;
}

abbrev pub rewrites : List Rewrite
rewrites = rewrite1 ∷ rewrite2 ∷ []

abbrev pub rest_text : List ℕ
rest_text = codes "\n}\n"

abbrev pub tail_text : List ℕ
tail_text = codes "\nfunc h(x int, p0 int) int {\nswitch x {\n\tcase p0 :\n\t\tx++\n\t}\n\tx--\nreturn x\n}\n"

abbrev pub tail_tokens : List Token
tail_tokens = token 0 kinds_of.Func 1 4 ∷ token 0 kinds_of.Identifier 6 1 ∷ token 0 kinds_of.LeftParenthesis 7 1 ∷ token 0 kinds_of.Identifier 8 1 ∷ token 0 kinds_of.Identifier 10 3 ∷ token 0 kinds_of.Comma 13 1 ∷ token 0 kinds_of.Identifier 15 2 ∷ token 0 kinds_of.Identifier 18 3 ∷ token 0 kinds_of.RightParenthesis 21 1 ∷ token 0 kinds_of.Identifier 23 3 ∷ token 0 kinds_of.LeftBrace 27 1 ∷ token 0 kinds_of.Switch 29 6 ∷ token 0 kinds_of.Identifier 36 1 ∷ token 0 kinds_of.LeftBrace 38 1 ∷ token 0 kinds_of.Case 41 4 ∷ token 0 kinds_of.Identifier 46 2 ∷ token 0 kinds_of.Colon 49 1 ∷ token 0 kinds_of.Identifier 53 1 ∷ token 0 kinds_of.Increment 54 2 ∷ token 0 kinds_of.Semicolon 56 0 ∷ token 0 kinds_of.RightBrace 58 1 ∷ token 0 kinds_of.Semicolon 59 0 ∷ token 0 kinds_of.Identifier 61 1 ∷ token 0 kinds_of.Decrement 62 2 ∷ token 0 kinds_of.Semicolon 64 0 ∷ token 0 kinds_of.Return 65 6 ∷ token 0 kinds_of.Identifier 72 1 ∷ token 0 kinds_of.Semicolon 73 0 ∷ token 0 kinds_of.RightBrace 74 1 ∷ token 0 kinds_of.Semicolon 75 0 ∷ []

abbrev pub tail_kinds : List TokenKind
tail_kinds = kinds_of.Func ∷ kinds_of.Identifier ∷ kinds_of.LeftParenthesis ∷ kinds_of.Identifier ∷ kinds_of.Identifier ∷ kinds_of.Comma ∷ kinds_of.Identifier ∷ kinds_of.Identifier ∷ kinds_of.RightParenthesis ∷ kinds_of.Identifier ∷ kinds_of.LeftBrace ∷ kinds_of.Switch ∷ kinds_of.Identifier ∷ kinds_of.LeftBrace ∷ kinds_of.Case ∷ kinds_of.Identifier ∷ kinds_of.Colon ∷ kinds_of.Identifier ∷ kinds_of.Increment ∷ kinds_of.Semicolon ∷ kinds_of.RightBrace ∷ kinds_of.Semicolon ∷ kinds_of.Identifier ∷ kinds_of.Decrement ∷ kinds_of.Semicolon ∷ kinds_of.Return ∷ kinds_of.Identifier ∷ kinds_of.Semicolon ∷ kinds_of.RightBrace ∷ kinds_of.Semicolon ∷ []

abbrev pub added : Tree
added = tree_in (read 60 tail_kinds 100 category.Declaration 0)

abbrev pub result_text : List ℕ
result_text = codes "package p\n\nfunc f(x int) {\n\tx = h(x, -3)\n}\n\nfunc g(x int) {\n\tx = h(x, -4)\n}\n\nfunc h(x int, p0 int) int {\nswitch x {\n\tcase p0 :\n\t\tx++\n\t}\n\tx--\nreturn x\n}\n"

pub record SwitchExample : Type 0 where
  -- the text of the edits is this one
  pub whole_text : new_text (edits rewrites rest_text) tail_text ≡ result_text
  pub holds : NewFile 0 (encode_utf8_all result_text) old_tokens file_tree rewrites rest_text tail_text tail_tokens (Some added)
