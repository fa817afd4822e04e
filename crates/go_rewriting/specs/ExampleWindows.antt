-- A worked example: two windows in one list, and one that ends a clause, in a file that ends in a comment without a newline; line
-- comments stand in what is appended.
use Rattle.std.specs.Prelude.{◌≡◌, ℕ, List, [], ◌∷◌, Some, codes}
use Rattle.std.specs.Str.{encode_utf8_all}
use Rattle.go_tokens.specs.declared.token.Token.{Token}
use Rattle.go_tokens.specs.declared.token.TokenKind.{TokenKind}
use Rattle.go_tokens.specs.declared.token.TokenKind.TheVariants as kinds_of
use Rattle.go_tokens.specs.Lexing.{token}
use Rattle.go_tokens.specs.Editing.{new_text}
use Rattle.go_grammar.specs.declared.kind.Category.TheVariants as category
use Rattle.go_grammar.specs.Trees.{Tree}
use Rattle.go_grammar.specs.Reader.{read}
use Rattle.go_rewriting.specs.Sites.{items}
use Rattle.go_rewriting.specs.Rewriting.{Rewrite, edits, NewFile}
use Rattle.go_rewriting.specs.Readings.{tree_in, statement_at, statements}

abbrev pub old_tokens : List Token
old_tokens = token 0 kinds_of.Package 0 7 ∷ token 0 kinds_of.Identifier 8 1 ∷ token 0 kinds_of.Semicolon 9 0 ∷ token 0 kinds_of.Func 11 4 ∷ token 0 kinds_of.Identifier 16 1 ∷ token 0 kinds_of.LeftParenthesis 17 1 ∷ token 0 kinds_of.Identifier 18 1 ∷ token 0 kinds_of.Identifier 20 3 ∷ token 0 kinds_of.RightParenthesis 23 1 ∷ token 0 kinds_of.LeftBrace 25 1 ∷ token 0 kinds_of.Identifier 28 1 ∷ token 0 kinds_of.Increment 29 2 ∷ token 0 kinds_of.Semicolon 31 0 ∷ token 0 kinds_of.Identifier 33 1 ∷ token 0 kinds_of.Decrement 34 2 ∷ token 0 kinds_of.Semicolon 36 0 ∷ token 0 kinds_of.Identifier 38 1 ∷ token 0 kinds_of.LeftParenthesis 39 1 ∷ token 0 kinds_of.Identifier 40 1 ∷ token 0 kinds_of.RightParenthesis 41 1 ∷ token 0 kinds_of.Semicolon 42 0 ∷ token 0 kinds_of.Identifier 44 1 ∷ token 0 kinds_of.Increment 45 2 ∷ token 0 kinds_of.Semicolon 47 0 ∷ token 0 kinds_of.Identifier 49 1 ∷ token 0 kinds_of.Decrement 50 2 ∷ token 0 kinds_of.Semicolon 52 0 ∷ token 0 kinds_of.Switch 54 6 ∷ token 0 kinds_of.Identifier 61 1 ∷ token 0 kinds_of.LeftBrace 63 1 ∷ token 0 kinds_of.Case 66 4 ∷ token 0 kinds_of.Integer 71 1 ∷ token 0 kinds_of.Colon 72 1 ∷ token 0 kinds_of.Identifier 74 1 ∷ token 0 kinds_of.LeftParenthesis 75 1 ∷ token 0 kinds_of.Identifier 76 1 ∷ token 0 kinds_of.RightParenthesis 77 1 ∷ token 0 kinds_of.Semicolon 78 1 ∷ token 0 kinds_of.Identifier 80 1 ∷ token 0 kinds_of.Increment 81 2 ∷ token 0 kinds_of.Semicolon 83 1 ∷ token 0 kinds_of.Identifier 85 1 ∷ token 0 kinds_of.Decrement 86 2 ∷ token 0 kinds_of.RightBrace 88 1 ∷ token 0 kinds_of.Semicolon 89 0 ∷ token 0 kinds_of.RightBrace 90 1 ∷ token 0 kinds_of.Semicolon 91 0 ∷ []

abbrev pub file_kinds : List TokenKind
file_kinds = kinds_of.Package ∷ kinds_of.Identifier ∷ kinds_of.Semicolon ∷ kinds_of.Func ∷ kinds_of.Identifier ∷ kinds_of.LeftParenthesis ∷ kinds_of.Identifier ∷ kinds_of.Identifier ∷ kinds_of.RightParenthesis ∷ kinds_of.LeftBrace ∷ kinds_of.Identifier ∷ kinds_of.Increment ∷ kinds_of.Semicolon ∷ kinds_of.Identifier ∷ kinds_of.Decrement ∷ kinds_of.Semicolon ∷ kinds_of.Identifier ∷ kinds_of.LeftParenthesis ∷ kinds_of.Identifier ∷ kinds_of.RightParenthesis ∷ kinds_of.Semicolon ∷ kinds_of.Identifier ∷ kinds_of.Increment ∷ kinds_of.Semicolon ∷ kinds_of.Identifier ∷ kinds_of.Decrement ∷ kinds_of.Semicolon ∷ kinds_of.Switch ∷ kinds_of.Identifier ∷ kinds_of.LeftBrace ∷ kinds_of.Case ∷ kinds_of.Integer ∷ kinds_of.Colon ∷ kinds_of.Identifier ∷ kinds_of.LeftParenthesis ∷ kinds_of.Identifier ∷ kinds_of.RightParenthesis ∷ kinds_of.Semicolon ∷ kinds_of.Identifier ∷ kinds_of.Increment ∷ kinds_of.Semicolon ∷ kinds_of.Identifier ∷ kinds_of.Decrement ∷ kinds_of.RightBrace ∷ kinds_of.Semicolon ∷ kinds_of.RightBrace ∷ kinds_of.Semicolon ∷ []

abbrev pub file_tree : Tree
file_tree = tree_in (read 60 file_kinds 101 category.File 0)

abbrev pub new1_text : List ℕ
new1_text = codes "x = h(x)"

abbrev pub new1_tokens : List Token
new1_tokens = token 0 kinds_of.Identifier 0 1 ∷ token 0 kinds_of.Assign 2 1 ∷ token 0 kinds_of.Identifier 4 1 ∷ token 0 kinds_of.LeftParenthesis 5 1 ∷ token 0 kinds_of.Identifier 6 1 ∷ token 0 kinds_of.RightParenthesis 7 1 ∷ token 0 kinds_of.Semicolon 8 0 ∷ []

abbrev pub next1 : List TokenKind
next1 = kinds_of.Semicolon ∷ []

abbrev pub all1 : List TokenKind
all1 = kinds_of.Identifier ∷ kinds_of.Assign ∷ kinds_of.Identifier ∷ kinds_of.LeftParenthesis ∷ kinds_of.Identifier ∷ kinds_of.RightParenthesis ∷ kinds_of.Semicolon ∷ []

abbrev pub rewrite1 : Rewrite
rewrite1 = record {
  kept = codes "package p\n\nfunc f(x int) {\n\t";
  old = codes "x++\n\tx--";
  from = 10;
  upto = 15;
  new = new1_text;
  alone = new1_tokens;
  path = 1 ∷ 1 ∷ [];
  change = items 0 1 (statements 0 (statement_at all1 0) all1);
  next = next1;
}

abbrev pub new2_text : List ℕ
new2_text = codes "x = h(x)"

abbrev pub new2_tokens : List Token
new2_tokens = token 0 kinds_of.Identifier 0 1 ∷ token 0 kinds_of.Assign 2 1 ∷ token 0 kinds_of.Identifier 4 1 ∷ token 0 kinds_of.LeftParenthesis 5 1 ∷ token 0 kinds_of.Identifier 6 1 ∷ token 0 kinds_of.RightParenthesis 7 1 ∷ token 0 kinds_of.Semicolon 8 0 ∷ []

abbrev pub next2 : List TokenKind
next2 = kinds_of.Semicolon ∷ []

abbrev pub all2 : List TokenKind
all2 = kinds_of.Identifier ∷ kinds_of.Assign ∷ kinds_of.Identifier ∷ kinds_of.LeftParenthesis ∷ kinds_of.Identifier ∷ kinds_of.RightParenthesis ∷ kinds_of.Semicolon ∷ []

abbrev pub rewrite2 : Rewrite
rewrite2 = record {
  kept = codes "\n\tg(x)\n\t";
  old = codes "x++\n\tx--";
  from = 21;
  upto = 26;
  new = new2_text;
  alone = new2_tokens;
  path = 1 ∷ 1 ∷ [];
  change = items 3 1 (statements 0 (statement_at all2 0) all2);
  next = next2;
}

abbrev pub new3_text : List ℕ
new3_text = codes "x = h(x)"

abbrev pub new3_tokens : List Token
new3_tokens = token 0 kinds_of.Identifier 0 1 ∷ token 0 kinds_of.Assign 2 1 ∷ token 0 kinds_of.Identifier 4 1 ∷ token 0 kinds_of.LeftParenthesis 5 1 ∷ token 0 kinds_of.Identifier 6 1 ∷ token 0 kinds_of.RightParenthesis 7 1 ∷ token 0 kinds_of.Semicolon 8 0 ∷ []

abbrev pub next3 : List TokenKind
next3 = kinds_of.RightBrace ∷ []

abbrev pub all3 : List TokenKind
all3 = kinds_of.Identifier ∷ kinds_of.Assign ∷ kinds_of.Identifier ∷ kinds_of.LeftParenthesis ∷ kinds_of.Identifier ∷ kinds_of.RightParenthesis ∷ kinds_of.RightBrace ∷ []

abbrev pub rewrite3 : Rewrite
rewrite3 = record {
  kept = codes "\n\tswitch x {\n\tcase 1: g(x); ";
  old = codes "x++; x--";
  from = 38;
  upto = 43;
  new = new3_text;
  alone = new3_tokens;
  path = 1 ∷ 1 ∷ 5 ∷ 1 ∷ [];
  change = items 2 1 (statements 0 (statement_at all3 0) all3);
  next = next3;
}

abbrev pub rewrites : List Rewrite
rewrites = rewrite1 ∷ rewrite2 ∷ rewrite3 ∷ []

abbrev pub rest_text : List ℕ
rest_text = codes "}\n}\n// end"

abbrev pub tail_text : List ℕ
tail_text = codes "\nfunc h(x int) int {\nx++ // up\n\tx-- // down\nreturn x\n}\n"

abbrev pub tail_tokens : List Token
tail_tokens = token 0 kinds_of.Func 1 4 ∷ token 0 kinds_of.Identifier 6 1 ∷ token 0 kinds_of.LeftParenthesis 7 1 ∷ token 0 kinds_of.Identifier 8 1 ∷ token 0 kinds_of.Identifier 10 3 ∷ token 0 kinds_of.RightParenthesis 13 1 ∷ token 0 kinds_of.Identifier 15 3 ∷ token 0 kinds_of.LeftBrace 19 1 ∷ token 0 kinds_of.Identifier 21 1 ∷ token 0 kinds_of.Increment 22 2 ∷ token 0 kinds_of.Semicolon 24 0 ∷ token 0 kinds_of.Identifier 32 1 ∷ token 0 kinds_of.Decrement 33 2 ∷ token 0 kinds_of.Semicolon 35 0 ∷ token 0 kinds_of.Return 44 6 ∷ token 0 kinds_of.Identifier 51 1 ∷ token 0 kinds_of.Semicolon 52 0 ∷ token 0 kinds_of.RightBrace 53 1 ∷ token 0 kinds_of.Semicolon 54 0 ∷ []

abbrev pub tail_kinds : List TokenKind
tail_kinds = kinds_of.Func ∷ kinds_of.Identifier ∷ kinds_of.LeftParenthesis ∷ kinds_of.Identifier ∷ kinds_of.Identifier ∷ kinds_of.RightParenthesis ∷ kinds_of.Identifier ∷ kinds_of.LeftBrace ∷ kinds_of.Identifier ∷ kinds_of.Increment ∷ kinds_of.Semicolon ∷ kinds_of.Identifier ∷ kinds_of.Decrement ∷ kinds_of.Semicolon ∷ kinds_of.Return ∷ kinds_of.Identifier ∷ kinds_of.Semicolon ∷ kinds_of.RightBrace ∷ kinds_of.Semicolon ∷ []

abbrev pub added : Tree
added = tree_in (read 60 tail_kinds 100 category.Declaration 0)

abbrev pub result_text : List ℕ
result_text = codes "package p\n\nfunc f(x int) {\n\tx = h(x)\n\tg(x)\n\tx = h(x)\n\tswitch x {\n\tcase 1: g(x); x = h(x)}\n}\n// end\nfunc h(x int) int {\nx++ // up\n\tx-- // down\nreturn x\n}\n"

pub record WindowsExample : Type 0 where
  -- the text of the edits is this one
  pub whole_text : new_text (edits rewrites rest_text) tail_text ≡ result_text
  pub holds : NewFile 0 (encode_utf8_all result_text) old_tokens file_tree rewrites rest_text tail_text tail_tokens (Some added)
