-- A worked example: names take the place of names, as before a period, among parameters and before `:=`.
use Rattle.std.specs.Prelude.{◌≡◌, ℕ, List, [], ◌∷◌, None, codes}
use Rattle.std.specs.Str.{encode_utf8_all}
use Rattle.go_tokens.specs.declared.token.Token.{Token}
use Rattle.go_tokens.specs.declared.token.TokenKind.{TokenKind}
use Rattle.go_tokens.specs.declared.token.TokenKind.TheVariants as kinds_of
use Rattle.go_tokens.specs.Lexing.{token}
use Rattle.go_tokens.specs.Editing.{new_text}
use Rattle.go_grammar.specs.declared.kind.Kind.TheVariants as kind
use Rattle.go_grammar.specs.declared.kind.Category.TheVariants as category
use Rattle.go_grammar.specs.Trees.{Tree, node, none}
use Rattle.go_grammar.specs.Reader.{read}
use Rattle.go_rewriting.specs.Sites.{whole}
use Rattle.go_rewriting.specs.Rewriting.{Rewrite, edits, NewFile}
use Rattle.go_rewriting.specs.Readings.{tree_in}

abbrev pub old_tokens : List Token
old_tokens = token 0 kinds_of.Package 0 7 ∷ token 0 kinds_of.Identifier 8 1 ∷ token 0 kinds_of.Semicolon 9 0 ∷ token 0 kinds_of.«Type» 11 4 ∷ token 0 kinds_of.Identifier 16 1 ∷ token 0 kinds_of.Struct 18 6 ∷ token 0 kinds_of.LeftBrace 25 1 ∷ token 0 kinds_of.Identifier 28 1 ∷ token 0 kinds_of.Identifier 30 3 ∷ token 0 kinds_of.Semicolon 33 0 ∷ token 0 kinds_of.RightBrace 34 1 ∷ token 0 kinds_of.Semicolon 35 0 ∷ token 0 kinds_of.Func 37 4 ∷ token 0 kinds_of.Identifier 42 1 ∷ token 0 kinds_of.LeftParenthesis 43 1 ∷ token 0 kinds_of.Identifier 44 1 ∷ token 0 kinds_of.Identifier 46 1 ∷ token 0 kinds_of.RightParenthesis 47 1 ∷ token 0 kinds_of.Identifier 49 3 ∷ token 0 kinds_of.LeftBrace 53 1 ∷ token 0 kinds_of.Identifier 56 1 ∷ token 0 kinds_of.Define 58 2 ∷ token 0 kinds_of.Identifier 61 1 ∷ token 0 kinds_of.Period 62 1 ∷ token 0 kinds_of.Identifier 63 1 ∷ token 0 kinds_of.Semicolon 64 0 ∷ token 0 kinds_of.Identifier 66 1 ∷ token 0 kinds_of.Period 67 1 ∷ token 0 kinds_of.Identifier 68 1 ∷ token 0 kinds_of.Assign 70 1 ∷ token 0 kinds_of.Identifier 72 1 ∷ token 0 kinds_of.Semicolon 73 0 ∷ token 0 kinds_of.Return 75 6 ∷ token 0 kinds_of.Identifier 82 1 ∷ token 0 kinds_of.Period 83 1 ∷ token 0 kinds_of.Identifier 84 1 ∷ token 0 kinds_of.Semicolon 85 0 ∷ token 0 kinds_of.RightBrace 86 1 ∷ token 0 kinds_of.Semicolon 87 0 ∷ []

abbrev pub file_kinds : List TokenKind
file_kinds = kinds_of.Package ∷ kinds_of.Identifier ∷ kinds_of.Semicolon ∷ kinds_of.«Type» ∷ kinds_of.Identifier ∷ kinds_of.Struct ∷ kinds_of.LeftBrace ∷ kinds_of.Identifier ∷ kinds_of.Identifier ∷ kinds_of.Semicolon ∷ kinds_of.RightBrace ∷ kinds_of.Semicolon ∷ kinds_of.Func ∷ kinds_of.Identifier ∷ kinds_of.LeftParenthesis ∷ kinds_of.Identifier ∷ kinds_of.Identifier ∷ kinds_of.RightParenthesis ∷ kinds_of.Identifier ∷ kinds_of.LeftBrace ∷ kinds_of.Identifier ∷ kinds_of.Define ∷ kinds_of.Identifier ∷ kinds_of.Period ∷ kinds_of.Identifier ∷ kinds_of.Semicolon ∷ kinds_of.Identifier ∷ kinds_of.Period ∷ kinds_of.Identifier ∷ kinds_of.Assign ∷ kinds_of.Identifier ∷ kinds_of.Semicolon ∷ kinds_of.Return ∷ kinds_of.Identifier ∷ kinds_of.Period ∷ kinds_of.Identifier ∷ kinds_of.Semicolon ∷ kinds_of.RightBrace ∷ kinds_of.Semicolon ∷ []

abbrev pub file_tree : Tree
file_tree = tree_in (read 60 file_kinds 101 category.File 0)

abbrev pub new1_text : List ℕ
new1_text = codes "z1"

abbrev pub new1_tokens : List Token
new1_tokens = token 0 kinds_of.Identifier 0 2 ∷ token 0 kinds_of.Semicolon 2 0 ∷ []

abbrev pub next1 : List TokenKind
next1 = kinds_of.Identifier ∷ []

abbrev pub rewrite1 : Rewrite
rewrite1 = record {
  kept = codes "package p\n\ntype t struct {\n\tf int\n}\n\nfunc g(";
  old = codes "x";
  from = 15;
  upto = 16;
  new = new1_text;
  alone = new1_tokens;
  path = 2 ∷ 0 ∷ 0 ∷ 0 ∷ 0 ∷ [];
  change = whole (node kind.Name 0 1 none);
  next = next1;
}

abbrev pub new2_text : List ℕ
new2_text = codes "w"

abbrev pub new2_tokens : List Token
new2_tokens = token 0 kinds_of.Identifier 0 1 ∷ token 0 kinds_of.Semicolon 1 0 ∷ []

abbrev pub next2 : List TokenKind
next2 = kinds_of.Define ∷ []

abbrev pub rewrite2 : Rewrite
rewrite2 = record {
  kept = codes " t) int {\n\t";
  old = codes "y";
  from = 20;
  upto = 21;
  new = new2_text;
  alone = new2_tokens;
  path = 2 ∷ 1 ∷ 0 ∷ 0 ∷ 0 ∷ 0 ∷ [];
  change = whole (node kind.Name 0 1 none);
  next = next2;
}

abbrev pub new3_text : List ℕ
new3_text = codes "z1"

abbrev pub new3_tokens : List Token
new3_tokens = token 0 kinds_of.Identifier 0 2 ∷ token 0 kinds_of.Semicolon 2 0 ∷ []

abbrev pub next3 : List TokenKind
next3 = kinds_of.Period ∷ []

abbrev pub rewrite3 : Rewrite
rewrite3 = record {
  kept = codes " := ";
  old = codes "x";
  from = 22;
  upto = 23;
  new = new3_text;
  alone = new3_tokens;
  path = 2 ∷ 1 ∷ 0 ∷ 1 ∷ 0 ∷ 0 ∷ [];
  change = whole (node kind.Name 0 1 none);
  next = next3;
}

abbrev pub new4_text : List ℕ
new4_text = codes "z1"

abbrev pub new4_tokens : List Token
new4_tokens = token 0 kinds_of.Identifier 0 2 ∷ token 0 kinds_of.Semicolon 2 0 ∷ []

abbrev pub next4 : List TokenKind
next4 = kinds_of.Period ∷ []

abbrev pub rewrite4 : Rewrite
rewrite4 = record {
  kept = codes ".f\n\t";
  old = codes "x";
  from = 26;
  upto = 27;
  new = new4_text;
  alone = new4_tokens;
  path = 2 ∷ 1 ∷ 1 ∷ 0 ∷ 0 ∷ 0 ∷ 0 ∷ [];
  change = whole (node kind.Name 0 1 none);
  next = next4;
}

abbrev pub new5_text : List ℕ
new5_text = codes "w"

abbrev pub new5_tokens : List Token
new5_tokens = token 0 kinds_of.Identifier 0 1 ∷ token 0 kinds_of.Semicolon 1 0 ∷ []

abbrev pub next5 : List TokenKind
next5 = kinds_of.Semicolon ∷ []

abbrev pub rewrite5 : Rewrite
rewrite5 = record {
  kept = codes ".f = ";
  old = codes "y";
  from = 30;
  upto = 31;
  new = new5_text;
  alone = new5_tokens;
  path = 2 ∷ 1 ∷ 1 ∷ 1 ∷ 0 ∷ [];
  change = whole (node kind.Name 0 1 none);
  next = next5;
}

abbrev pub new6_text : List ℕ
new6_text = codes "z1"

abbrev pub new6_tokens : List Token
new6_tokens = token 0 kinds_of.Identifier 0 2 ∷ token 0 kinds_of.Semicolon 2 0 ∷ []

abbrev pub next6 : List TokenKind
next6 = kinds_of.Period ∷ []

abbrev pub rewrite6 : Rewrite
rewrite6 = record {
  kept = codes "\n\treturn ";
  old = codes "x";
  from = 33;
  upto = 34;
  new = new6_text;
  alone = new6_tokens;
  path = 2 ∷ 1 ∷ 2 ∷ 0 ∷ 0 ∷ 0 ∷ [];
  change = whole (node kind.Name 0 1 none);
  next = next6;
}

abbrev pub rewrites : List Rewrite
rewrites = rewrite1 ∷ rewrite2 ∷ rewrite3 ∷ rewrite4 ∷ rewrite5 ∷ rewrite6 ∷ []

abbrev pub rest_text : List ℕ
rest_text = codes ".f\n}\n"

abbrev pub tail_text : List ℕ
tail_text = []

abbrev pub tail_tokens : List Token
tail_tokens = []

abbrev pub result_text : List ℕ
result_text = codes "package p\n\ntype t struct {\n\tf int\n}\n\nfunc g(z1 t) int {\n\tw := z1.f\n\tz1.f = w\n\treturn z1.f\n}\n"

pub record NamesExample : Type 0 where
  -- the text of the edits is this one
  pub whole_text : new_text (edits rewrites rest_text) tail_text ≡ result_text
  pub holds : NewFile 0 (encode_utf8_all result_text) old_tokens file_tree rewrites rest_text tail_text tail_tokens None
