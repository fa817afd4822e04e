-- A worked example: names take the place of constants in a case, in the header of a loop and on the left side of a range.
use Rattle.std.specs.Prelude.{◌≡◌, ℕ, List, [], ◌∷◌, None, codes}
use Rattle.std.specs.Str.{encode_utf8_all}
use Rattle.go_tokens.specs.declared.token.Token.{Token}
use Rattle.go_tokens.specs.declared.token.TokenKind.{TokenKind}
use Rattle.go_tokens.specs.declared.token.TokenKind.TheVariants as kinds_of
use Rattle.go_tokens.specs.Lexing.{token}
use Rattle.go_tokens.specs.Editing.{new_text}
use Rattle.go_grammar.specs.declared.kind.Level.TheVariants as level
use Rattle.go_grammar.specs.declared.kind.Place.TheVariants as place
use Rattle.go_grammar.specs.declared.kind.Category.TheVariants as category
use Rattle.go_grammar.specs.Trees.{Tree}
use Rattle.go_grammar.specs.Reader.{read}
use Rattle.go_rewriting.specs.Sites.{whole}
use Rattle.go_rewriting.specs.Rewriting.{Rewrite, edits, NewFile}
use Rattle.go_rewriting.specs.Readings.{tree_in, read_at}

abbrev pub old_tokens : List Token
old_tokens = token 0 kinds_of.Package 0 7 ∷ token 0 kinds_of.Identifier 8 1 ∷ token 0 kinds_of.Semicolon 9 0 ∷ token 0 kinds_of.Func 11 4 ∷ token 0 kinds_of.Identifier 16 1 ∷ token 0 kinds_of.LeftParenthesis 17 1 ∷ token 0 kinds_of.Identifier 18 1 ∷ token 0 kinds_of.Identifier 20 3 ∷ token 0 kinds_of.Comma 23 1 ∷ token 0 kinds_of.Identifier 25 1 ∷ token 0 kinds_of.LeftBracket 27 1 ∷ token 0 kinds_of.RightBracket 28 1 ∷ token 0 kinds_of.Identifier 29 3 ∷ token 0 kinds_of.Comma 32 1 ∷ token 0 kinds_of.Identifier 34 1 ∷ token 0 kinds_of.LeftBracket 36 1 ∷ token 0 kinds_of.RightBracket 37 1 ∷ token 0 kinds_of.Identifier 38 3 ∷ token 0 kinds_of.RightParenthesis 41 1 ∷ token 0 kinds_of.Identifier 43 3 ∷ token 0 kinds_of.LeftBrace 47 1 ∷ token 0 kinds_of.Switch 50 6 ∷ token 0 kinds_of.Identifier 57 1 ∷ token 0 kinds_of.LeftBrace 59 1 ∷ token 0 kinds_of.Case 62 4 ∷ token 0 kinds_of.Minus 66 1 ∷ token 0 kinds_of.Integer 67 1 ∷ token 0 kinds_of.Colon 68 1 ∷ token 0 kinds_of.Identifier 72 1 ∷ token 0 kinds_of.Increment 73 2 ∷ token 0 kinds_of.Semicolon 75 0 ∷ token 0 kinds_of.RightBrace 77 1 ∷ token 0 kinds_of.Semicolon 78 0 ∷ token 0 kinds_of.For 80 3 ∷ token 0 kinds_of.Identifier 84 1 ∷ token 0 kinds_of.Define 86 2 ∷ token 0 kinds_of.Integer 89 1 ∷ token 0 kinds_of.Semicolon 90 1 ∷ token 0 kinds_of.Identifier 92 1 ∷ token 0 kinds_of.Less 94 1 ∷ token 0 kinds_of.Integer 96 2 ∷ token 0 kinds_of.Semicolon 98 1 ∷ token 0 kinds_of.Identifier 100 1 ∷ token 0 kinds_of.Increment 101 2 ∷ token 0 kinds_of.LeftBrace 104 1 ∷ token 0 kinds_of.Identifier 108 1 ∷ token 0 kinds_of.Decrement 109 2 ∷ token 0 kinds_of.Semicolon 111 0 ∷ token 0 kinds_of.RightBrace 113 1 ∷ token 0 kinds_of.Semicolon 114 0 ∷ token 0 kinds_of.For 116 3 ∷ token 0 kinds_of.Identifier 120 1 ∷ token 0 kinds_of.LeftBracket 121 1 ∷ token 0 kinds_of.Integer 122 1 ∷ token 0 kinds_of.RightBracket 123 1 ∷ token 0 kinds_of.Assign 125 1 ∷ token 0 kinds_of.Range 127 5 ∷ token 0 kinds_of.Identifier 133 1 ∷ token 0 kinds_of.LeftBrace 135 1 ∷ token 0 kinds_of.RightBrace 138 1 ∷ token 0 kinds_of.Semicolon 139 0 ∷ token 0 kinds_of.Return 141 6 ∷ token 0 kinds_of.Identifier 148 1 ∷ token 0 kinds_of.Semicolon 149 0 ∷ token 0 kinds_of.RightBrace 150 1 ∷ token 0 kinds_of.Semicolon 151 0 ∷ []

abbrev pub file_kinds : List TokenKind
file_kinds = kinds_of.Package ∷ kinds_of.Identifier ∷ kinds_of.Semicolon ∷ kinds_of.Func ∷ kinds_of.Identifier ∷ kinds_of.LeftParenthesis ∷ kinds_of.Identifier ∷ kinds_of.Identifier ∷ kinds_of.Comma ∷ kinds_of.Identifier ∷ kinds_of.LeftBracket ∷ kinds_of.RightBracket ∷ kinds_of.Identifier ∷ kinds_of.Comma ∷ kinds_of.Identifier ∷ kinds_of.LeftBracket ∷ kinds_of.RightBracket ∷ kinds_of.Identifier ∷ kinds_of.RightParenthesis ∷ kinds_of.Identifier ∷ kinds_of.LeftBrace ∷ kinds_of.Switch ∷ kinds_of.Identifier ∷ kinds_of.LeftBrace ∷ kinds_of.Case ∷ kinds_of.Minus ∷ kinds_of.Integer ∷ kinds_of.Colon ∷ kinds_of.Identifier ∷ kinds_of.Increment ∷ kinds_of.Semicolon ∷ kinds_of.RightBrace ∷ kinds_of.Semicolon ∷ kinds_of.For ∷ kinds_of.Identifier ∷ kinds_of.Define ∷ kinds_of.Integer ∷ kinds_of.Semicolon ∷ kinds_of.Identifier ∷ kinds_of.Less ∷ kinds_of.Integer ∷ kinds_of.Semicolon ∷ kinds_of.Identifier ∷ kinds_of.Increment ∷ kinds_of.LeftBrace ∷ kinds_of.Identifier ∷ kinds_of.Decrement ∷ kinds_of.Semicolon ∷ kinds_of.RightBrace ∷ kinds_of.Semicolon ∷ kinds_of.For ∷ kinds_of.Identifier ∷ kinds_of.LeftBracket ∷ kinds_of.Integer ∷ kinds_of.RightBracket ∷ kinds_of.Assign ∷ kinds_of.Range ∷ kinds_of.Identifier ∷ kinds_of.LeftBrace ∷ kinds_of.RightBrace ∷ kinds_of.Semicolon ∷ kinds_of.Return ∷ kinds_of.Identifier ∷ kinds_of.Semicolon ∷ kinds_of.RightBrace ∷ kinds_of.Semicolon ∷ []

abbrev pub file_tree : Tree
file_tree = tree_in (read 60 file_kinds 101 category.File 0)

abbrev pub new1_text : List ℕ
new1_text = codes " p0 "

abbrev pub new1_tokens : List Token
new1_tokens = token 0 kinds_of.Identifier 1 2 ∷ token 0 kinds_of.Semicolon 3 0 ∷ []

abbrev pub next1 : List TokenKind
next1 = kinds_of.Colon ∷ []

abbrev pub all1 : List TokenKind
all1 = kinds_of.Identifier ∷ kinds_of.Colon ∷ []

abbrev pub rewrite1 : Rewrite
rewrite1 = record {
  kept = codes "package p\n\nfunc h(x int, a []int, b []int) int {\n\tswitch x {\n\tcase";
  old = codes "-3";
  from = 25;
  upto = 27;
  new = new1_text;
  alone = new1_tokens;
  path = 1 ∷ 1 ∷ 0 ∷ 1 ∷ 0 ∷ 0 ∷ [];
  change = whole (tree_in (read_at all1 (category.Expression level.Either place.Free)));
  next = next1;
}

abbrev pub new2_text : List ℕ
new2_text = codes " p1 "

abbrev pub new2_tokens : List Token
new2_tokens = token 0 kinds_of.Identifier 1 2 ∷ token 0 kinds_of.Semicolon 3 0 ∷ []

abbrev pub next2 : List TokenKind
next2 = kinds_of.Semicolon ∷ []

abbrev pub all2 : List TokenKind
all2 = kinds_of.Identifier ∷ kinds_of.Semicolon ∷ []

abbrev pub rewrite2 : Rewrite
rewrite2 = record {
  kept = codes ":\n\t\tx++\n\t}\n\tfor i := 0; i < ";
  old = codes "10";
  from = 40;
  upto = 41;
  new = new2_text;
  alone = new2_tokens;
  path = 1 ∷ 1 ∷ 1 ∷ 0 ∷ 1 ∷ 1 ∷ [];
  change = whole (tree_in (read_at all2 (category.Expression level.Sum place.Header)));
  next = next2;
}

abbrev pub new3_text : List ℕ
new3_text = codes " p2 "

abbrev pub new3_tokens : List Token
new3_tokens = token 0 kinds_of.Identifier 1 2 ∷ token 0 kinds_of.Semicolon 3 0 ∷ []

abbrev pub next3 : List TokenKind
next3 = kinds_of.RightBracket ∷ []

abbrev pub all3 : List TokenKind
all3 = kinds_of.Identifier ∷ kinds_of.RightBracket ∷ []

abbrev pub rewrite3 : Rewrite
rewrite3 = record {
  kept = codes "; i++ {\n\t\tx--\n\t}\n\tfor a[";
  old = codes "3";
  from = 53;
  upto = 54;
  new = new3_text;
  alone = new3_tokens;
  path = 1 ∷ 1 ∷ 2 ∷ 0 ∷ 0 ∷ 0 ∷ 0 ∷ 1 ∷ [];
  change = whole (tree_in (read_at all3 (category.Bracket)));
  next = next3;
}

abbrev pub rewrites : List Rewrite
rewrites = rewrite1 ∷ rewrite2 ∷ rewrite3 ∷ []

abbrev pub rest_text : List ℕ
rest_text = codes "] = range b {\n\t}\n\treturn x\n}\n"

abbrev pub tail_text : List ℕ
tail_text = []

abbrev pub tail_tokens : List Token
tail_tokens = []

abbrev pub result_text : List ℕ
result_text = codes "package p\n\nfunc h(x int, a []int, b []int) int {\n\tswitch x {\n\tcase p0 :\n\t\tx++\n\t}\n\tfor i := 0; i <  p1 ; i++ {\n\t\tx--\n\t}\n\tfor a[ p2 ] = range b {\n\t}\n\treturn x\n}\n"

pub record HolesExample : Type 0 where
  -- the text of the edits is this one
  pub whole_text : new_text (edits rewrites rest_text) tail_text ≡ result_text
  pub holds : NewFile 0 (encode_utf8_all result_text) old_tokens file_tree rewrites rest_text tail_text tail_tokens None
