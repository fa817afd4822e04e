-- The worked example of holes.
use Rattle.std.proofs.Common.{◌≡◌, ℕ, List, [], ◌∷◌, None, refl, codes, arith}
use Rattle.std.specs.Char.{encode_utf8}
use Rattle.std.specs.Str.{encode_utf8_all}
use Rattle.ucd_category.specs.GeneralCategory.{general_category}
use Rattle.ucd_category.specs.GeneralCategoryRows.{general_category_rows}
use Rattle.ucd_table.specs.Rows.{value_in}
use Rattle.go_base.specs.declared.Span.{Span}
use Rattle.go_tokens.specs.declared.token.TokenKind.{TokenKind}
use Rattle.go_tokens.specs.declared.token.TokenKind.TheVariants as kinds_of
use Rattle.go_tokens.specs.Characters.{is_white, is_letter, is_digit, is_in_word, is_in_run, is_exponent, is_power, is_sign, is_x, is_b, is_o}
use Rattle.go_tokens.specs.Spellings.{keywords, punctuation, outside_operators, operators}
use Rattle.go_tokens.specs.Literals.{letter_base, is_digit_of}
use Rattle.go_tokens.specs.Pieces.{begun_by, goes}
use Rattle.go_tokens.specs.Lexing.{width, span, token, Lexes}
use Rattle.go_tokens.specs.Tokens.{kinds}
use Rattle.go_tokens.specs.Replacing.{joins}
use Rattle.go_tokens.specs.Editing.{Stands, old_text, new_text}
use Rattle.go_tokens.proofs.Public.{lexes_by_test}
use Rattle.go_grammar.specs.declared.kind.Level.TheVariants as level
use Rattle.go_grammar.specs.declared.kind.Place.TheVariants as place
use Rattle.go_grammar.specs.declared.kind.Category.TheVariants as category
use Rattle.go_grammar.specs.Grammar.{IsFile}
use Rattle.go_grammar.proofs.Public.{read_stands}
use Rattle.go_rewriting.specs.Replacing.{subtree_at}
use Rattle.go_rewriting.specs.Rewriting.{edits, TextFits, TreeFits, NewFile}
use Rattle.go_rewriting.proofs.Tokens.{among_get}
use Rattle.go_rewriting.proofs.Rewritten.{new_file}
use Rattle.go_rewriting.specs.Readings.{tree_in, read_at}
use Rattle.go_rewriting.proofs.Testing.{written, plain_edge, read_fits}
use Rattle.go_rewriting.specs.ExampleHoles.{HolesExample, old_tokens, file_kinds, file_tree, new1_text, new1_tokens, all1, rewrite1, new2_text, new2_tokens, all2, rewrite2, new3_text, new3_tokens, all3, rewrite3, rewrites, rest_text, tail_text, tail_tokens, result_text}

abbrev old_text_is : List ℕ
old_text_is = codes "package p\n\nfunc h(x int, a []int, b []int) int {\n\tswitch x {\n\tcase-3:\n\t\tx++\n\t}\n\tfor i := 0; i < 10; i++ {\n\t\tx--\n\t}\n\tfor a[3] = range b {\n\t}\n\treturn x\n}\n"

abbrev old_pieces : List (List ℕ)
old_pieces = codes "package" ∷ codes " " ∷ codes "p" ∷ codes "\n" ∷ codes "\n" ∷ codes "func" ∷ codes " " ∷ codes "h" ∷ codes "(" ∷ codes "x" ∷ codes " " ∷ codes "int" ∷ codes "," ∷ codes " " ∷ codes "a" ∷ codes " " ∷ codes "[" ∷ codes "]" ∷ codes "int" ∷ codes "," ∷ codes " " ∷ codes "b" ∷ codes " " ∷ codes "[" ∷ codes "]" ∷ codes "int" ∷ codes ")" ∷ codes " " ∷ codes "int" ∷ codes " " ∷ codes "{" ∷ codes "\n" ∷ codes "\t" ∷ codes "switch" ∷ codes " " ∷ codes "x" ∷ codes " " ∷ codes "{" ∷ codes "\n" ∷ codes "\t" ∷ codes "case" ∷ codes "-" ∷ codes "3" ∷ codes ":" ∷ codes "\n" ∷ codes "\t" ∷ codes "\t" ∷ codes "x" ∷ codes "++" ∷ codes "\n" ∷ codes "\t" ∷ codes "}" ∷ codes "\n" ∷ codes "\t" ∷ codes "for" ∷ codes " " ∷ codes "i" ∷ codes " " ∷ codes ":=" ∷ codes " " ∷ codes "0" ∷ codes ";" ∷ codes " " ∷ codes "i" ∷ codes " " ∷ codes "<" ∷ codes " " ∷ codes "10" ∷ codes ";" ∷ codes " " ∷ codes "i" ∷ codes "++" ∷ codes " " ∷ codes "{" ∷ codes "\n" ∷ codes "\t" ∷ codes "\t" ∷ codes "x" ∷ codes "--" ∷ codes "\n" ∷ codes "\t" ∷ codes "}" ∷ codes "\n" ∷ codes "\t" ∷ codes "for" ∷ codes " " ∷ codes "a" ∷ codes "[" ∷ codes "3" ∷ codes "]" ∷ codes " " ∷ codes "=" ∷ codes " " ∷ codes "range" ∷ codes " " ∷ codes "b" ∷ codes " " ∷ codes "{" ∷ codes "\n" ∷ codes "\t" ∷ codes "}" ∷ codes "\n" ∷ codes "\t" ∷ codes "return" ∷ codes " " ∷ codes "x" ∷ codes "\n" ∷ codes "}" ∷ codes "\n" ∷ []

abbrev old_comments : List Span
old_comments = []

old_lexes : Lexes 0 old_text_is old_tokens old_comments
unfolding width span begun_by is_white is_letter is_digit is_in_word is_in_run is_exponent is_power is_sign is_x is_b is_o is_digit_of letter_base goes operators punctuation outside_operators keywords general_category value_in general_category_rows encode_utf8
old_lexes = lexes_by_test 0 old_pieces refl

file_is : IsFile (kinds old_tokens) file_tree
file_is = let r = read_stands file_kinds 60 101 category.File 0 file_tree refl in record { derives = r.0; begins = refl; ends = refl; shallow = r.2 }

abbrev new1_pieces : List (List ℕ)
new1_pieces = codes " " ∷ codes "p0" ∷ codes " " ∷ []

abbrev new1_comments : List Span
new1_comments = []

new1_lexes : Lexes 0 new1_text new1_tokens new1_comments
unfolding width span begun_by is_white is_letter is_digit is_in_word is_in_run is_exponent is_power is_sign is_x is_b is_o is_digit_of letter_base goes operators punctuation outside_operators keywords general_category value_in general_category_rows encode_utf8
new1_lexes = lexes_by_test 0 new1_pieces refl

abbrev words1 : List TokenKind
words1 = kinds_of.Identifier ∷ []

abbrev new2_pieces : List (List ℕ)
new2_pieces = codes " " ∷ codes "p1" ∷ codes " " ∷ []

abbrev new2_comments : List Span
new2_comments = []

new2_lexes : Lexes 0 new2_text new2_tokens new2_comments
unfolding width span begun_by is_white is_letter is_digit is_in_word is_in_run is_exponent is_power is_sign is_x is_b is_o is_digit_of letter_base goes operators punctuation outside_operators keywords general_category value_in general_category_rows encode_utf8
new2_lexes = lexes_by_test 0 new2_pieces refl

abbrev words2 : List TokenKind
words2 = kinds_of.Identifier ∷ []

abbrev new3_pieces : List (List ℕ)
new3_pieces = codes " " ∷ codes "p2" ∷ codes " " ∷ []

abbrev new3_comments : List Span
new3_comments = []

new3_lexes : Lexes 0 new3_text new3_tokens new3_comments
unfolding width span begun_by is_white is_letter is_digit is_in_word is_in_run is_exponent is_power is_sign is_x is_b is_o is_digit_of letter_base goes operators punctuation outside_operators keywords general_category value_in general_category_rows encode_utf8
new3_lexes = lexes_by_test 0 new3_pieces refl

abbrev words3 : List TokenKind
words3 = kinds_of.Identifier ∷ []

abbrev tail_pieces : List (List ℕ)
tail_pieces = []

tail_lexes : Lexes 0 tail_text tail_tokens []
tail_lexes = lexes_by_test 0 tail_pieces refl

abbrev tail_comments : List Span
tail_comments = []

stands1 : Stands 0 new1_text
unfolding width span begun_by is_white is_letter is_digit is_in_word is_in_run is_exponent is_power is_sign is_x is_b is_o is_digit_of letter_base goes operators punctuation outside_operators keywords general_category value_in general_category_rows encode_utf8 joins
stands1 = record {
  before = codes " ";
  inner = codes "p0";
  behind = codes " ";
  whole = refl;
  blank_before = refl;
  blank_behind = refl;
  tokens = new1_tokens;
  comments = new1_comments;
  lexes = new1_lexes;
  spans = record {
    first = token 0 kinds_of.Identifier 1 2;
    last = token 0 kinds_of.Identifier 1 2;
    has_first = among_get new1_tokens 0 (token 0 kinds_of.Identifier 1 2) refl;
    has_last = among_get new1_tokens 0 (token 0 kinds_of.Identifier 1 2) refl;
    first_written = written (token 0 kinds_of.Identifier 1 2) refl;
    last_written = written (token 0 kinds_of.Identifier 1 2) refl;
    begins = refl;
    ends = refl;
    some = omega arith;
  };
}

text_fits1 : TextFits 0 old_tokens 0 rewrite1 (old_text (edits (rewrite2 ∷ rewrite3 ∷ []) rest_text)) (new_text (edits (rewrite2 ∷ rewrite3 ∷ []) rest_text) tail_text)
unfolding width span begun_by is_white is_letter is_digit is_in_word is_in_run is_exponent is_power is_sign is_x is_b is_o is_digit_of letter_base goes operators punctuation outside_operators keywords general_category value_in general_category_rows encode_utf8 joins stands1
text_fits1 = record {
  range = record {
    first = token 0 kinds_of.Minus 66 1;
    last = token 0 kinds_of.Integer 67 1;
    order = omega arith;
    has_first = refl;
    has_last = refl;
    first_written = written (token 0 kinds_of.Minus 66 1) refl;
    last_written = written (token 0 kinds_of.Integer 67 1) refl;
    begins = refl;
    ends = refl;
  };
  stands = stands1;
  tokens = refl;
  apart_before = refl;
  apart_behind = refl;
  line = λ _. refl;
}

tree_fits1 : TreeFits category.File (kinds old_tokens) file_tree rewrite1 (rewrite2 ∷ rewrite3 ∷ [])
unfolding span
tree_fits1 = record {
  stood = tree_in (subtree_at (1 ∷ 1 ∷ 0 ∷ 1 ∷ 0 ∷ 0 ∷ []) file_tree);
  category = category.Expression level.Either place.Free;
  at_path = refl;
  asked = refl;
  place = refl;
  fits = read_fits all1 (category.Expression level.Either place.Free) (tree_in (read_at all1 (category.Expression level.Either place.Free))) 1 refl refl;
  behind_is = refl;
  edge = plain_edge file_kinds words1 25 refl refl;
}

stands2 : Stands 0 new2_text
unfolding width span begun_by is_white is_letter is_digit is_in_word is_in_run is_exponent is_power is_sign is_x is_b is_o is_digit_of letter_base goes operators punctuation outside_operators keywords general_category value_in general_category_rows encode_utf8 joins
stands2 = record {
  before = codes " ";
  inner = codes "p1";
  behind = codes " ";
  whole = refl;
  blank_before = refl;
  blank_behind = refl;
  tokens = new2_tokens;
  comments = new2_comments;
  lexes = new2_lexes;
  spans = record {
    first = token 0 kinds_of.Identifier 1 2;
    last = token 0 kinds_of.Identifier 1 2;
    has_first = among_get new2_tokens 0 (token 0 kinds_of.Identifier 1 2) refl;
    has_last = among_get new2_tokens 0 (token 0 kinds_of.Identifier 1 2) refl;
    first_written = written (token 0 kinds_of.Identifier 1 2) refl;
    last_written = written (token 0 kinds_of.Identifier 1 2) refl;
    begins = refl;
    ends = refl;
    some = omega arith;
  };
}

text_fits2 : TextFits 0 old_tokens 68 rewrite2 (old_text (edits (rewrite3 ∷ []) rest_text)) (new_text (edits (rewrite3 ∷ []) rest_text) tail_text)
unfolding width span begun_by is_white is_letter is_digit is_in_word is_in_run is_exponent is_power is_sign is_x is_b is_o is_digit_of letter_base goes operators punctuation outside_operators keywords general_category value_in general_category_rows encode_utf8 joins stands2
text_fits2 = record {
  range = record {
    first = token 0 kinds_of.Integer 96 2;
    last = token 0 kinds_of.Integer 96 2;
    order = omega arith;
    has_first = refl;
    has_last = refl;
    first_written = written (token 0 kinds_of.Integer 96 2) refl;
    last_written = written (token 0 kinds_of.Integer 96 2) refl;
    begins = refl;
    ends = refl;
  };
  stands = stands2;
  tokens = refl;
  apart_before = refl;
  apart_behind = refl;
  line = λ _. refl;
}

tree_fits2 : TreeFits category.File (kinds old_tokens) file_tree rewrite2 (rewrite3 ∷ [])
unfolding span
tree_fits2 = record {
  stood = tree_in (subtree_at (1 ∷ 1 ∷ 1 ∷ 0 ∷ 1 ∷ 1 ∷ []) file_tree);
  category = category.Expression level.Sum place.Header;
  at_path = refl;
  asked = refl;
  place = refl;
  fits = read_fits all2 (category.Expression level.Sum place.Header) (tree_in (read_at all2 (category.Expression level.Sum place.Header))) 1 refl refl;
  behind_is = refl;
  edge = plain_edge file_kinds words2 40 refl refl;
}

stands3 : Stands 0 new3_text
unfolding width span begun_by is_white is_letter is_digit is_in_word is_in_run is_exponent is_power is_sign is_x is_b is_o is_digit_of letter_base goes operators punctuation outside_operators keywords general_category value_in general_category_rows encode_utf8 joins
stands3 = record {
  before = codes " ";
  inner = codes "p2";
  behind = codes " ";
  whole = refl;
  blank_before = refl;
  blank_behind = refl;
  tokens = new3_tokens;
  comments = new3_comments;
  lexes = new3_lexes;
  spans = record {
    first = token 0 kinds_of.Identifier 1 2;
    last = token 0 kinds_of.Identifier 1 2;
    has_first = among_get new3_tokens 0 (token 0 kinds_of.Identifier 1 2) refl;
    has_last = among_get new3_tokens 0 (token 0 kinds_of.Identifier 1 2) refl;
    first_written = written (token 0 kinds_of.Identifier 1 2) refl;
    last_written = written (token 0 kinds_of.Identifier 1 2) refl;
    begins = refl;
    ends = refl;
    some = omega arith;
  };
}

text_fits3 : TextFits 0 old_tokens 98 rewrite3 (old_text (edits ([]) rest_text)) (new_text (edits ([]) rest_text) tail_text)
unfolding width span begun_by is_white is_letter is_digit is_in_word is_in_run is_exponent is_power is_sign is_x is_b is_o is_digit_of letter_base goes operators punctuation outside_operators keywords general_category value_in general_category_rows encode_utf8 joins stands3
text_fits3 = record {
  range = record {
    first = token 0 kinds_of.Integer 122 1;
    last = token 0 kinds_of.Integer 122 1;
    order = omega arith;
    has_first = refl;
    has_last = refl;
    first_written = written (token 0 kinds_of.Integer 122 1) refl;
    last_written = written (token 0 kinds_of.Integer 122 1) refl;
    begins = refl;
    ends = refl;
  };
  stands = stands3;
  tokens = refl;
  apart_before = refl;
  apart_behind = refl;
  line = λ _. refl;
}

tree_fits3 : TreeFits category.File (kinds old_tokens) file_tree rewrite3 ([])
unfolding span
tree_fits3 = record {
  stood = tree_in (subtree_at (1 ∷ 1 ∷ 2 ∷ 0 ∷ 0 ∷ 0 ∷ 0 ∷ 1 ∷ []) file_tree);
  category = category.Bracket;
  at_path = refl;
  asked = refl;
  place = refl;
  fits = read_fits all3 (category.Bracket) (tree_in (read_at all3 (category.Bracket))) 1 refl refl;
  behind_is = refl;
  edge = plain_edge file_kinds words3 53 refl refl;
}

-- the text of the edits is this one
whole_text : new_text (edits rewrites rest_text) tail_text ≡ result_text
whole_text = refl

holds : NewFile 0 (encode_utf8_all result_text) old_tokens file_tree rewrites rest_text tail_text tail_tokens None
unfolding width span begun_by is_white is_letter is_digit is_in_word is_in_run is_exponent is_power is_sign is_x is_b is_o is_digit_of letter_base goes operators punctuation outside_operators keywords general_category value_in general_category_rows encode_utf8 joins
holds = new_file 0 (encode_utf8_all old_text_is) (encode_utf8_all result_text) old_tokens old_comments file_tree rewrites rest_text tail_text tail_tokens None (record {
  old_bytes = record { scalars = refl; encoded = refl; allowed = refl };
  new_bytes = record { scalars = refl; encoded = refl; allowed = refl };
  lexing = record { text = old_text_is; is_text = record { scalars = refl; encoded = refl; allowed = refl }; lexes = old_lexes };
  tree = file_is;
  texts = (text_fits1, (text_fits2, (text_fits3, tt)));
  trees = (tree_fits1, (tree_fits2, (tree_fits3, tt)));
  agrees = refl;
  shallow = omega arith;
  appended = record { begins = refl; comments = tail_comments; lexes = tail_lexes };
  added_fits = refl;
})

pub all : HolesExample
all = record { whole_text = whole_text; holds = holds }
