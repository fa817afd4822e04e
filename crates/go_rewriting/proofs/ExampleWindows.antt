-- The worked example of windows.
use Rattle.std.proofs.Common.{◌≡◌, ℕ, true, false, List, [], ◌∷◌, Some, refl, codes, arith}
use Rattle.std.specs.Char.{encode_utf8}
use Rattle.std.specs.Str.{encode_utf8_all}
use Rattle.ucd_category.specs.GeneralCategory.{general_category}
use Rattle.ucd_category.specs.GeneralCategoryRows.{general_category_rows}
use Rattle.ucd_table.specs.Rows.{value_in}
use Rattle.go_base.specs.declared.Span.{Span}
use Rattle.go_tokens.specs.declared.token.TokenKind.{TokenKind}
use Rattle.go_tokens.specs.declared.token.TokenKind.TheVariants as kinds_of
use Rattle.go_tokens.specs.Characters.{is_white, is_letter, is_digit, is_in_word, is_in_run, is_exponent, is_power, is_sign, is_x, is_b, is_o}
use Rattle.go_tokens.specs.Spellings.{keywords, punctuation, outside_operators, operators}
use Rattle.go_tokens.specs.Literals.{letter_base, is_digit_of}
use Rattle.go_tokens.specs.Pieces.{begun_by, goes}
use Rattle.go_tokens.specs.Lexing.{width, span, token, Lexes}
use Rattle.go_tokens.specs.Tokens.{kinds}
use Rattle.go_tokens.specs.Replacing.{joins}
use Rattle.go_tokens.specs.Editing.{Stands, old_text, new_text}
use Rattle.go_tokens.proofs.Public.{lexes_by_test}
use Rattle.go_grammar.specs.declared.kind.Category.TheVariants as category
use Rattle.go_grammar.specs.Grammar.{IsFile}
use Rattle.go_grammar.proofs.Public.{read_stands}
use Rattle.go_rewriting.specs.Replacing.{subtree_at}
use Rattle.go_rewriting.specs.Places.{IsDeclaration}
use Rattle.go_rewriting.specs.Rewriting.{edits, TextFits, TreeFits, NewFile}
use Rattle.go_rewriting.proofs.Tokens.{among_get}
use Rattle.go_rewriting.proofs.Rewritten.{new_file}
use Rattle.go_rewriting.specs.Lists.{in_block, in_clause}
use Rattle.go_rewriting.specs.Readings.{tree_in, statement_at}
use Rattle.go_rewriting.proofs.Testing.{written, statements_run, plain_edge}
use Rattle.go_rewriting.specs.ExampleWindows.{WindowsExample, old_tokens, file_kinds, file_tree, new1_text, new1_tokens, all1, rewrite1, new2_text, new2_tokens, all2, rewrite2, new3_text, new3_tokens, all3, rewrite3, rewrites, rest_text, tail_text, tail_tokens, tail_kinds, added, result_text}

abbrev old_text_is : List ℕ
old_text_is = codes "package p\n\nfunc f(x int) {\n\tx++\n\tx--\n\tg(x)\n\tx++\n\tx--\n\tswitch x {\n\tcase 1: g(x); x++; x--}\n}\n// end"

abbrev old_pieces : List (List ℕ)
old_pieces = codes "package" ∷ codes " " ∷ codes "p" ∷ codes "\n" ∷ codes "\n" ∷ codes "func" ∷ codes " " ∷ codes "f" ∷ codes "(" ∷ codes "x" ∷ codes " " ∷ codes "int" ∷ codes ")" ∷ codes " " ∷ codes "{" ∷ codes "\n" ∷ codes "\t" ∷ codes "x" ∷ codes "++" ∷ codes "\n" ∷ codes "\t" ∷ codes "x" ∷ codes "--" ∷ codes "\n" ∷ codes "\t" ∷ codes "g" ∷ codes "(" ∷ codes "x" ∷ codes ")" ∷ codes "\n" ∷ codes "\t" ∷ codes "x" ∷ codes "++" ∷ codes "\n" ∷ codes "\t" ∷ codes "x" ∷ codes "--" ∷ codes "\n" ∷ codes "\t" ∷ codes "switch" ∷ codes " " ∷ codes "x" ∷ codes " " ∷ codes "{" ∷ codes "\n" ∷ codes "\t" ∷ codes "case" ∷ codes " " ∷ codes "1" ∷ codes ":" ∷ codes " " ∷ codes "g" ∷ codes "(" ∷ codes "x" ∷ codes ")" ∷ codes ";" ∷ codes " " ∷ codes "x" ∷ codes "++" ∷ codes ";" ∷ codes " " ∷ codes "x" ∷ codes "--" ∷ codes "}" ∷ codes "\n" ∷ codes "}" ∷ codes "\n" ∷ codes "// end" ∷ []

abbrev old_comments : List Span
old_comments = span 0 92 6 ∷ []

old_lexes : Lexes 0 old_text_is old_tokens old_comments
unfolding width span begun_by is_white is_letter is_digit is_in_word is_in_run is_exponent is_power is_sign is_x is_b is_o is_digit_of letter_base goes operators punctuation outside_operators keywords general_category value_in general_category_rows encode_utf8
old_lexes = lexes_by_test 0 old_pieces refl

file_is : IsFile (kinds old_tokens) file_tree
file_is = let r = read_stands file_kinds 60 101 category.File 0 file_tree refl in record { derives = r.0; begins = refl; ends = refl; shallow = r.2 }

abbrev new1_pieces : List (List ℕ)
new1_pieces = codes "x" ∷ codes " " ∷ codes "=" ∷ codes " " ∷ codes "h" ∷ codes "(" ∷ codes "x" ∷ codes ")" ∷ []

abbrev new1_comments : List Span
new1_comments = []

new1_lexes : Lexes 0 new1_text new1_tokens new1_comments
unfolding width span begun_by is_white is_letter is_digit is_in_word is_in_run is_exponent is_power is_sign is_x is_b is_o is_digit_of letter_base goes operators punctuation outside_operators keywords general_category value_in general_category_rows encode_utf8
new1_lexes = lexes_by_test 0 new1_pieces refl

abbrev words1 : List TokenKind
words1 = kinds_of.Identifier ∷ kinds_of.Assign ∷ kinds_of.Identifier ∷ kinds_of.LeftParenthesis ∷ kinds_of.Identifier ∷ kinds_of.RightParenthesis ∷ []

abbrev new2_pieces : List (List ℕ)
new2_pieces = codes "x" ∷ codes " " ∷ codes "=" ∷ codes " " ∷ codes "h" ∷ codes "(" ∷ codes "x" ∷ codes ")" ∷ []

abbrev new2_comments : List Span
new2_comments = []

new2_lexes : Lexes 0 new2_text new2_tokens new2_comments
unfolding width span begun_by is_white is_letter is_digit is_in_word is_in_run is_exponent is_power is_sign is_x is_b is_o is_digit_of letter_base goes operators punctuation outside_operators keywords general_category value_in general_category_rows encode_utf8
new2_lexes = lexes_by_test 0 new2_pieces refl

abbrev words2 : List TokenKind
words2 = kinds_of.Identifier ∷ kinds_of.Assign ∷ kinds_of.Identifier ∷ kinds_of.LeftParenthesis ∷ kinds_of.Identifier ∷ kinds_of.RightParenthesis ∷ []

abbrev new3_pieces : List (List ℕ)
new3_pieces = codes "x" ∷ codes " " ∷ codes "=" ∷ codes " " ∷ codes "h" ∷ codes "(" ∷ codes "x" ∷ codes ")" ∷ []

abbrev new3_comments : List Span
new3_comments = []

new3_lexes : Lexes 0 new3_text new3_tokens new3_comments
unfolding width span begun_by is_white is_letter is_digit is_in_word is_in_run is_exponent is_power is_sign is_x is_b is_o is_digit_of letter_base goes operators punctuation outside_operators keywords general_category value_in general_category_rows encode_utf8
new3_lexes = lexes_by_test 0 new3_pieces refl

abbrev words3 : List TokenKind
words3 = kinds_of.Identifier ∷ kinds_of.Assign ∷ kinds_of.Identifier ∷ kinds_of.LeftParenthesis ∷ kinds_of.Identifier ∷ kinds_of.RightParenthesis ∷ []

abbrev tail_pieces : List (List ℕ)
tail_pieces = codes "\n" ∷ codes "func" ∷ codes " " ∷ codes "h" ∷ codes "(" ∷ codes "x" ∷ codes " " ∷ codes "int" ∷ codes ")" ∷ codes " " ∷ codes "int" ∷ codes " " ∷ codes "{" ∷ codes "\n" ∷ codes "x" ∷ codes "++" ∷ codes " " ∷ codes "// up" ∷ codes "\n" ∷ codes "\t" ∷ codes "x" ∷ codes "--" ∷ codes " " ∷ codes "// down" ∷ codes "\n" ∷ codes "return" ∷ codes " " ∷ codes "x" ∷ codes "\n" ∷ codes "}" ∷ codes "\n" ∷ []

abbrev tail_comments : List Span
tail_comments = span 0 25 5 ∷ span 0 36 7 ∷ []

tail_lexes : Lexes 0 tail_text tail_tokens tail_comments
unfolding width span begun_by is_white is_letter is_digit is_in_word is_in_run is_exponent is_power is_sign is_x is_b is_o is_digit_of letter_base goes operators punctuation outside_operators keywords general_category value_in general_category_rows encode_utf8
tail_lexes = lexes_by_test 0 tail_pieces refl

added_is : IsDeclaration (kinds tail_tokens) added
added_is = let r = read_stands tail_kinds 60 100 category.Declaration 0 added refl in record { derives = r.0; begins = refl; closed = refl; all = refl; shallow = r.2 }

stands1 : Stands 0 new1_text
unfolding width span begun_by is_white is_letter is_digit is_in_word is_in_run is_exponent is_power is_sign is_x is_b is_o is_digit_of letter_base goes operators punctuation outside_operators keywords general_category value_in general_category_rows encode_utf8 joins
stands1 = record {
  before = codes "";
  inner = codes "x = h(x)";
  behind = codes "";
  whole = refl;
  blank_before = refl;
  blank_behind = refl;
  tokens = new1_tokens;
  comments = new1_comments;
  lexes = new1_lexes;
  spans = record {
    first = token 0 kinds_of.Identifier 0 1;
    last = token 0 kinds_of.RightParenthesis 7 1;
    has_first = among_get new1_tokens 0 (token 0 kinds_of.Identifier 0 1) refl;
    has_last = among_get new1_tokens 5 (token 0 kinds_of.RightParenthesis 7 1) refl;
    first_written = written (token 0 kinds_of.Identifier 0 1) refl;
    last_written = written (token 0 kinds_of.RightParenthesis 7 1) refl;
    begins = refl;
    ends = refl;
    some = omega arith;
  };
}

text_fits1 : TextFits 0 old_tokens 0 rewrite1 (old_text (edits (rewrite2 ∷ rewrite3 ∷ []) rest_text)) (new_text (edits (rewrite2 ∷ rewrite3 ∷ []) rest_text) tail_text)
unfolding width span begun_by is_white is_letter is_digit is_in_word is_in_run is_exponent is_power is_sign is_x is_b is_o is_digit_of letter_base goes operators punctuation outside_operators keywords general_category value_in general_category_rows encode_utf8 joins stands1
text_fits1 = record {
  range = record {
    first = token 0 kinds_of.Identifier 28 1;
    last = token 0 kinds_of.Decrement 34 2;
    order = omega arith;
    has_first = refl;
    has_last = refl;
    first_written = written (token 0 kinds_of.Identifier 28 1) refl;
    last_written = written (token 0 kinds_of.Decrement 34 2) refl;
    begins = refl;
    ends = refl;
  };
  stands = stands1;
  tokens = refl;
  apart_before = refl;
  apart_behind = refl;
  line = λ _. refl;
}

tree_fits1 : TreeFits category.File (kinds old_tokens) file_tree rewrite1 (rewrite2 ∷ rewrite3 ∷ [])
unfolding span
tree_fits1 = record {
  stood = tree_in (subtree_at (1 ∷ 1 ∷ []) file_tree);
  category = category.Block;
  at_path = refl;
  asked = refl;
  place = refl;
  fits = record { list = in_block; is_list = refl; has = refl; run = statements_run all1 true 0 (statement_at all1 0) 0 6 refl refl };
  behind_is = refl;
  edge = plain_edge file_kinds words1 10 refl refl;
}

stands2 : Stands 0 new2_text
unfolding width span begun_by is_white is_letter is_digit is_in_word is_in_run is_exponent is_power is_sign is_x is_b is_o is_digit_of letter_base goes operators punctuation outside_operators keywords general_category value_in general_category_rows encode_utf8 joins
stands2 = record {
  before = codes "";
  inner = codes "x = h(x)";
  behind = codes "";
  whole = refl;
  blank_before = refl;
  blank_behind = refl;
  tokens = new2_tokens;
  comments = new2_comments;
  lexes = new2_lexes;
  spans = record {
    first = token 0 kinds_of.Identifier 0 1;
    last = token 0 kinds_of.RightParenthesis 7 1;
    has_first = among_get new2_tokens 0 (token 0 kinds_of.Identifier 0 1) refl;
    has_last = among_get new2_tokens 5 (token 0 kinds_of.RightParenthesis 7 1) refl;
    first_written = written (token 0 kinds_of.Identifier 0 1) refl;
    last_written = written (token 0 kinds_of.RightParenthesis 7 1) refl;
    begins = refl;
    ends = refl;
    some = omega arith;
  };
}

text_fits2 : TextFits 0 old_tokens 36 rewrite2 (old_text (edits (rewrite3 ∷ []) rest_text)) (new_text (edits (rewrite3 ∷ []) rest_text) tail_text)
unfolding width span begun_by is_white is_letter is_digit is_in_word is_in_run is_exponent is_power is_sign is_x is_b is_o is_digit_of letter_base goes operators punctuation outside_operators keywords general_category value_in general_category_rows encode_utf8 joins stands2
text_fits2 = record {
  range = record {
    first = token 0 kinds_of.Identifier 44 1;
    last = token 0 kinds_of.Decrement 50 2;
    order = omega arith;
    has_first = refl;
    has_last = refl;
    first_written = written (token 0 kinds_of.Identifier 44 1) refl;
    last_written = written (token 0 kinds_of.Decrement 50 2) refl;
    begins = refl;
    ends = refl;
  };
  stands = stands2;
  tokens = refl;
  apart_before = refl;
  apart_behind = refl;
  line = λ _. refl;
}

tree_fits2 : TreeFits category.File (kinds old_tokens) file_tree rewrite2 (rewrite3 ∷ [])
unfolding span
tree_fits2 = record {
  stood = tree_in (subtree_at (1 ∷ 1 ∷ []) file_tree);
  category = category.Block;
  at_path = refl;
  asked = refl;
  place = refl;
  fits = record { list = in_block; is_list = refl; has = refl; run = statements_run all2 true 0 (statement_at all2 0) 0 6 refl refl };
  behind_is = refl;
  edge = plain_edge file_kinds words2 21 refl refl;
}

stands3 : Stands 0 new3_text
unfolding width span begun_by is_white is_letter is_digit is_in_word is_in_run is_exponent is_power is_sign is_x is_b is_o is_digit_of letter_base goes operators punctuation outside_operators keywords general_category value_in general_category_rows encode_utf8 joins
stands3 = record {
  before = codes "";
  inner = codes "x = h(x)";
  behind = codes "";
  whole = refl;
  blank_before = refl;
  blank_behind = refl;
  tokens = new3_tokens;
  comments = new3_comments;
  lexes = new3_lexes;
  spans = record {
    first = token 0 kinds_of.Identifier 0 1;
    last = token 0 kinds_of.RightParenthesis 7 1;
    has_first = among_get new3_tokens 0 (token 0 kinds_of.Identifier 0 1) refl;
    has_last = among_get new3_tokens 5 (token 0 kinds_of.RightParenthesis 7 1) refl;
    first_written = written (token 0 kinds_of.Identifier 0 1) refl;
    last_written = written (token 0 kinds_of.RightParenthesis 7 1) refl;
    begins = refl;
    ends = refl;
    some = omega arith;
  };
}

text_fits3 : TextFits 0 old_tokens 52 rewrite3 (old_text (edits ([]) rest_text)) (new_text (edits ([]) rest_text) tail_text)
unfolding width span begun_by is_white is_letter is_digit is_in_word is_in_run is_exponent is_power is_sign is_x is_b is_o is_digit_of letter_base goes operators punctuation outside_operators keywords general_category value_in general_category_rows encode_utf8 joins stands3
text_fits3 = record {
  range = record {
    first = token 0 kinds_of.Identifier 80 1;
    last = token 0 kinds_of.Decrement 86 2;
    order = omega arith;
    has_first = refl;
    has_last = refl;
    first_written = written (token 0 kinds_of.Identifier 80 1) refl;
    last_written = written (token 0 kinds_of.Decrement 86 2) refl;
    begins = refl;
    ends = refl;
  };
  stands = stands3;
  tokens = refl;
  apart_before = refl;
  apart_behind = refl;
  line = λ _. refl;
}

tree_fits3 : TreeFits category.File (kinds old_tokens) file_tree rewrite3 ([])
unfolding span
tree_fits3 = record {
  stood = tree_in (subtree_at (1 ∷ 1 ∷ 5 ∷ 1 ∷ []) file_tree);
  category = category.Clause;
  at_path = refl;
  asked = refl;
  place = refl;
  fits = record { list = in_clause; is_list = refl; has = refl; run = statements_run all3 false 0 (statement_at all3 0) 0 6 refl refl };
  behind_is = refl;
  edge = plain_edge file_kinds words3 38 refl refl;
}

-- the text of the edits is this one
whole_text : new_text (edits rewrites rest_text) tail_text ≡ result_text
whole_text = refl

holds : NewFile 0 (encode_utf8_all result_text) old_tokens file_tree rewrites rest_text tail_text tail_tokens (Some added)
unfolding width span begun_by is_white is_letter is_digit is_in_word is_in_run is_exponent is_power is_sign is_x is_b is_o is_digit_of letter_base goes operators punctuation outside_operators keywords general_category value_in general_category_rows encode_utf8 joins
holds = new_file 0 (encode_utf8_all old_text_is) (encode_utf8_all result_text) old_tokens old_comments file_tree rewrites rest_text tail_text tail_tokens (Some added) (record {
  old_bytes = record { scalars = refl; encoded = refl; allowed = refl };
  new_bytes = record { scalars = refl; encoded = refl; allowed = refl };
  lexing = record { text = old_text_is; is_text = record { scalars = refl; encoded = refl; allowed = refl }; lexes = old_lexes };
  tree = file_is;
  texts = (text_fits1, (text_fits2, (text_fits3, tt)));
  trees = (tree_fits1, (tree_fits2, (tree_fits3, tt)));
  agrees = refl;
  shallow = omega arith;
  appended = record { begins = refl; comments = tail_comments; lexes = tail_lexes };
  added_fits = added_is;
})

pub all : WindowsExample
all = record { whole_text = whole_text; holds = holds }
