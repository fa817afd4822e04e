-- The worked example of names.
use Rattle.std.proofs.Common.{◌≡◌, ℕ, List, [], ◌∷◌, None, refl, codes, arith}
use Rattle.std.specs.Char.{encode_utf8}
use Rattle.std.specs.Str.{encode_utf8_all}
use Rattle.ucd_category.specs.GeneralCategory.{general_category}
use Rattle.ucd_category.specs.GeneralCategoryRows.{general_category_rows}
use Rattle.ucd_table.specs.Rows.{value_in}
use Rattle.go_base.specs.declared.Span.{Span}
use Rattle.go_tokens.specs.declared.token.TokenKind.{TokenKind}
use Rattle.go_tokens.specs.declared.token.TokenKind.TheVariants as kinds_of
use Rattle.go_tokens.specs.Characters.{is_white, is_letter, is_digit, is_in_word, is_in_run, is_exponent, is_power, is_sign, is_x, is_b, is_o}
use Rattle.go_tokens.specs.Spellings.{keywords, punctuation, outside_operators, operators}
use Rattle.go_tokens.specs.Literals.{letter_base, is_digit_of}
use Rattle.go_tokens.specs.Pieces.{begun_by, goes}
use Rattle.go_tokens.specs.Lexing.{width, span, token, Lexes}
use Rattle.go_tokens.specs.Tokens.{kinds}
use Rattle.go_tokens.specs.Replacing.{joins}
use Rattle.go_tokens.specs.Editing.{Stands, old_text, new_text}
use Rattle.go_tokens.proofs.Public.{lexes_by_test}
use Rattle.go_grammar.specs.declared.kind.Kind.TheVariants as kind
use Rattle.go_grammar.specs.declared.kind.Level.TheVariants as level
use Rattle.go_grammar.specs.declared.kind.Place.TheVariants as place
use Rattle.go_grammar.specs.declared.kind.Category.TheVariants as category
use Rattle.go_grammar.specs.Trees.{node, none}
use Rattle.go_grammar.specs.Grammar.{IsFile}
use Rattle.go_grammar.proofs.Public.{read_stands}
use Rattle.go_rewriting.specs.Replacing.{subtree_at}
use Rattle.go_rewriting.specs.Rewriting.{edits, sites_alone, TextFits, TreeFits, NewFile}
use Rattle.go_rewriting.proofs.Tokens.{among_get}
use Rattle.go_rewriting.specs.Lists.{AllAlike}
use Rattle.go_rewriting.proofs.Rewritten.{new_file}
use Rattle.go_rewriting.proofs.Settled.{alike_rewrites}
use Rattle.go_rewriting.specs.Readings.{tree_in}
use Rattle.go_rewriting.proofs.Testing.{written, plain_edge}
use Rattle.go_rewriting.specs.ExampleNames.{NamesExample, old_tokens, file_kinds, file_tree, new1_text, new1_tokens, rewrite1, new2_text, new2_tokens, rewrite2, new3_text, new3_tokens, rewrite3, new4_text, new4_tokens, rewrite4, new5_text, new5_tokens, rewrite5, new6_text, new6_tokens, rewrite6, rewrites, rest_text, tail_text, tail_tokens, result_text}

abbrev old_text_is : List ℕ
old_text_is = codes "package p\n\ntype t struct {\n\tf int\n}\n\nfunc g(x t) int {\n\ty := x.f\n\tx.f = y\n\treturn x.f\n}\n"

abbrev old_pieces : List (List ℕ)
old_pieces = codes "package" ∷ codes " " ∷ codes "p" ∷ codes "\n" ∷ codes "\n" ∷ codes "type" ∷ codes " " ∷ codes "t" ∷ codes " " ∷ codes "struct" ∷ codes " " ∷ codes "{" ∷ codes "\n" ∷ codes "\t" ∷ codes "f" ∷ codes " " ∷ codes "int" ∷ codes "\n" ∷ codes "}" ∷ codes "\n" ∷ codes "\n" ∷ codes "func" ∷ codes " " ∷ codes "g" ∷ codes "(" ∷ codes "x" ∷ codes " " ∷ codes "t" ∷ codes ")" ∷ codes " " ∷ codes "int" ∷ codes " " ∷ codes "{" ∷ codes "\n" ∷ codes "\t" ∷ codes "y" ∷ codes " " ∷ codes ":=" ∷ codes " " ∷ codes "x" ∷ codes "." ∷ codes "f" ∷ codes "\n" ∷ codes "\t" ∷ codes "x" ∷ codes "." ∷ codes "f" ∷ codes " " ∷ codes "=" ∷ codes " " ∷ codes "y" ∷ codes "\n" ∷ codes "\t" ∷ codes "return" ∷ codes " " ∷ codes "x" ∷ codes "." ∷ codes "f" ∷ codes "\n" ∷ codes "}" ∷ codes "\n" ∷ []

abbrev old_comments : List Span
old_comments = []

old_lexes : Lexes 0 old_text_is old_tokens old_comments
unfolding width span begun_by is_white is_letter is_digit is_in_word is_in_run is_exponent is_power is_sign is_x is_b is_o is_digit_of letter_base goes operators punctuation outside_operators keywords general_category value_in general_category_rows encode_utf8
old_lexes = lexes_by_test 0 old_pieces refl

file_is : IsFile (kinds old_tokens) file_tree
file_is = let r = read_stands file_kinds 60 101 category.File 0 file_tree refl in record { derives = r.0; begins = refl; ends = refl; shallow = r.2 }

abbrev new1_pieces : List (List ℕ)
new1_pieces = codes "z1" ∷ []

abbrev new1_comments : List Span
new1_comments = []

new1_lexes : Lexes 0 new1_text new1_tokens new1_comments
unfolding width span begun_by is_white is_letter is_digit is_in_word is_in_run is_exponent is_power is_sign is_x is_b is_o is_digit_of letter_base goes operators punctuation outside_operators keywords general_category value_in general_category_rows encode_utf8
new1_lexes = lexes_by_test 0 new1_pieces refl

abbrev words1 : List TokenKind
words1 = kinds_of.Identifier ∷ []

abbrev all1 : List TokenKind
all1 = kinds_of.Identifier ∷ kinds_of.Identifier ∷ []

abbrev new2_pieces : List (List ℕ)
new2_pieces = codes "w" ∷ []

abbrev new2_comments : List Span
new2_comments = []

new2_lexes : Lexes 0 new2_text new2_tokens new2_comments
unfolding width span begun_by is_white is_letter is_digit is_in_word is_in_run is_exponent is_power is_sign is_x is_b is_o is_digit_of letter_base goes operators punctuation outside_operators keywords general_category value_in general_category_rows encode_utf8
new2_lexes = lexes_by_test 0 new2_pieces refl

abbrev words2 : List TokenKind
words2 = kinds_of.Identifier ∷ []

abbrev all2 : List TokenKind
all2 = kinds_of.Identifier ∷ kinds_of.Define ∷ []

abbrev new3_pieces : List (List ℕ)
new3_pieces = codes "z1" ∷ []

abbrev new3_comments : List Span
new3_comments = []

new3_lexes : Lexes 0 new3_text new3_tokens new3_comments
unfolding width span begun_by is_white is_letter is_digit is_in_word is_in_run is_exponent is_power is_sign is_x is_b is_o is_digit_of letter_base goes operators punctuation outside_operators keywords general_category value_in general_category_rows encode_utf8
new3_lexes = lexes_by_test 0 new3_pieces refl

abbrev words3 : List TokenKind
words3 = kinds_of.Identifier ∷ []

abbrev all3 : List TokenKind
all3 = kinds_of.Identifier ∷ kinds_of.Period ∷ []

abbrev new4_pieces : List (List ℕ)
new4_pieces = codes "z1" ∷ []

abbrev new4_comments : List Span
new4_comments = []

new4_lexes : Lexes 0 new4_text new4_tokens new4_comments
unfolding width span begun_by is_white is_letter is_digit is_in_word is_in_run is_exponent is_power is_sign is_x is_b is_o is_digit_of letter_base goes operators punctuation outside_operators keywords general_category value_in general_category_rows encode_utf8
new4_lexes = lexes_by_test 0 new4_pieces refl

abbrev words4 : List TokenKind
words4 = kinds_of.Identifier ∷ []

abbrev new5_pieces : List (List ℕ)
new5_pieces = codes "w" ∷ []

abbrev new5_comments : List Span
new5_comments = []

new5_lexes : Lexes 0 new5_text new5_tokens new5_comments
unfolding width span begun_by is_white is_letter is_digit is_in_word is_in_run is_exponent is_power is_sign is_x is_b is_o is_digit_of letter_base goes operators punctuation outside_operators keywords general_category value_in general_category_rows encode_utf8
new5_lexes = lexes_by_test 0 new5_pieces refl

abbrev words5 : List TokenKind
words5 = kinds_of.Identifier ∷ []

abbrev new6_pieces : List (List ℕ)
new6_pieces = codes "z1" ∷ []

abbrev new6_comments : List Span
new6_comments = []

new6_lexes : Lexes 0 new6_text new6_tokens new6_comments
unfolding width span begun_by is_white is_letter is_digit is_in_word is_in_run is_exponent is_power is_sign is_x is_b is_o is_digit_of letter_base goes operators punctuation outside_operators keywords general_category value_in general_category_rows encode_utf8
new6_lexes = lexes_by_test 0 new6_pieces refl

abbrev words6 : List TokenKind
words6 = kinds_of.Identifier ∷ []

abbrev tail_pieces : List (List ℕ)
tail_pieces = []

tail_lexes : Lexes 0 tail_text tail_tokens []
tail_lexes = lexes_by_test 0 tail_pieces refl

abbrev tail_comments : List Span
tail_comments = []

stands1 : Stands 0 new1_text
unfolding width span begun_by is_white is_letter is_digit is_in_word is_in_run is_exponent is_power is_sign is_x is_b is_o is_digit_of letter_base goes operators punctuation outside_operators keywords general_category value_in general_category_rows encode_utf8 joins
stands1 = record {
  before = codes "";
  inner = codes "z1";
  behind = codes "";
  whole = refl;
  blank_before = refl;
  blank_behind = refl;
  tokens = new1_tokens;
  comments = new1_comments;
  lexes = new1_lexes;
  spans = record {
    first = token 0 kinds_of.Identifier 0 2;
    last = token 0 kinds_of.Identifier 0 2;
    has_first = among_get new1_tokens 0 (token 0 kinds_of.Identifier 0 2) refl;
    has_last = among_get new1_tokens 0 (token 0 kinds_of.Identifier 0 2) refl;
    first_written = written (token 0 kinds_of.Identifier 0 2) refl;
    last_written = written (token 0 kinds_of.Identifier 0 2) refl;
    begins = refl;
    ends = refl;
    some = omega arith;
  };
}

text_fits1 : TextFits 0 old_tokens 0 rewrite1 (old_text (edits (rewrite2 ∷ rewrite3 ∷ rewrite4 ∷ rewrite5 ∷ rewrite6 ∷ []) rest_text)) (new_text (edits (rewrite2 ∷ rewrite3 ∷ rewrite4 ∷ rewrite5 ∷ rewrite6 ∷ []) rest_text) tail_text)
unfolding width span begun_by is_white is_letter is_digit is_in_word is_in_run is_exponent is_power is_sign is_x is_b is_o is_digit_of letter_base goes operators punctuation outside_operators keywords general_category value_in general_category_rows encode_utf8 joins stands1
text_fits1 = record {
  range = record {
    first = token 0 kinds_of.Identifier 44 1;
    last = token 0 kinds_of.Identifier 44 1;
    order = omega arith;
    has_first = refl;
    has_last = refl;
    first_written = written (token 0 kinds_of.Identifier 44 1) refl;
    last_written = written (token 0 kinds_of.Identifier 44 1) refl;
    begins = refl;
    ends = refl;
  };
  stands = stands1;
  tokens = refl;
  apart_before = refl;
  apart_behind = refl;
  line = λ _. refl;
}

tree_fits1 : TreeFits category.File (kinds old_tokens) file_tree rewrite1 (rewrite2 ∷ rewrite3 ∷ rewrite4 ∷ rewrite5 ∷ rewrite6 ∷ [])
unfolding span
tree_fits1 = record {
  stood = tree_in (subtree_at (2 ∷ 0 ∷ 0 ∷ 0 ∷ 0 ∷ []) file_tree);
  category = category.Name;
  at_path = refl;
  asked = refl;
  place = refl;
  fits = ((refl, (refl, refl), refl, refl), refl, refl);
  behind_is = refl;
  edge = plain_edge file_kinds words1 15 refl refl;
}

stands2 : Stands 0 new2_text
unfolding width span begun_by is_white is_letter is_digit is_in_word is_in_run is_exponent is_power is_sign is_x is_b is_o is_digit_of letter_base goes operators punctuation outside_operators keywords general_category value_in general_category_rows encode_utf8 joins
stands2 = record {
  before = codes "";
  inner = codes "w";
  behind = codes "";
  whole = refl;
  blank_before = refl;
  blank_behind = refl;
  tokens = new2_tokens;
  comments = new2_comments;
  lexes = new2_lexes;
  spans = record {
    first = token 0 kinds_of.Identifier 0 1;
    last = token 0 kinds_of.Identifier 0 1;
    has_first = among_get new2_tokens 0 (token 0 kinds_of.Identifier 0 1) refl;
    has_last = among_get new2_tokens 0 (token 0 kinds_of.Identifier 0 1) refl;
    first_written = written (token 0 kinds_of.Identifier 0 1) refl;
    last_written = written (token 0 kinds_of.Identifier 0 1) refl;
    begins = refl;
    ends = refl;
    some = omega arith;
  };
}

text_fits2 : TextFits 0 old_tokens 45 rewrite2 (old_text (edits (rewrite3 ∷ rewrite4 ∷ rewrite5 ∷ rewrite6 ∷ []) rest_text)) (new_text (edits (rewrite3 ∷ rewrite4 ∷ rewrite5 ∷ rewrite6 ∷ []) rest_text) tail_text)
unfolding width span begun_by is_white is_letter is_digit is_in_word is_in_run is_exponent is_power is_sign is_x is_b is_o is_digit_of letter_base goes operators punctuation outside_operators keywords general_category value_in general_category_rows encode_utf8 joins stands2
text_fits2 = record {
  range = record {
    first = token 0 kinds_of.Identifier 56 1;
    last = token 0 kinds_of.Identifier 56 1;
    order = omega arith;
    has_first = refl;
    has_last = refl;
    first_written = written (token 0 kinds_of.Identifier 56 1) refl;
    last_written = written (token 0 kinds_of.Identifier 56 1) refl;
    begins = refl;
    ends = refl;
  };
  stands = stands2;
  tokens = refl;
  apart_before = refl;
  apart_behind = refl;
  line = λ _. refl;
}

tree_fits2 : TreeFits category.File (kinds old_tokens) file_tree rewrite2 (rewrite3 ∷ rewrite4 ∷ rewrite5 ∷ rewrite6 ∷ [])
unfolding span
tree_fits2 = record {
  stood = tree_in (subtree_at (2 ∷ 1 ∷ 0 ∷ 0 ∷ 0 ∷ 0 ∷ []) file_tree);
  category = category.Expression level.Either place.Free;
  at_path = refl;
  asked = refl;
  place = refl;
  fits = ((refl, (refl, refl), refl, refl), refl, refl);
  behind_is = refl;
  edge = plain_edge file_kinds words2 20 refl refl;
}

stands3 : Stands 0 new3_text
unfolding width span begun_by is_white is_letter is_digit is_in_word is_in_run is_exponent is_power is_sign is_x is_b is_o is_digit_of letter_base goes operators punctuation outside_operators keywords general_category value_in general_category_rows encode_utf8 joins
stands3 = record {
  before = codes "";
  inner = codes "z1";
  behind = codes "";
  whole = refl;
  blank_before = refl;
  blank_behind = refl;
  tokens = new3_tokens;
  comments = new3_comments;
  lexes = new3_lexes;
  spans = record {
    first = token 0 kinds_of.Identifier 0 2;
    last = token 0 kinds_of.Identifier 0 2;
    has_first = among_get new3_tokens 0 (token 0 kinds_of.Identifier 0 2) refl;
    has_last = among_get new3_tokens 0 (token 0 kinds_of.Identifier 0 2) refl;
    first_written = written (token 0 kinds_of.Identifier 0 2) refl;
    last_written = written (token 0 kinds_of.Identifier 0 2) refl;
    begins = refl;
    ends = refl;
    some = omega arith;
  };
}

text_fits3 : TextFits 0 old_tokens 57 rewrite3 (old_text (edits (rewrite4 ∷ rewrite5 ∷ rewrite6 ∷ []) rest_text)) (new_text (edits (rewrite4 ∷ rewrite5 ∷ rewrite6 ∷ []) rest_text) tail_text)
unfolding width span begun_by is_white is_letter is_digit is_in_word is_in_run is_exponent is_power is_sign is_x is_b is_o is_digit_of letter_base goes operators punctuation outside_operators keywords general_category value_in general_category_rows encode_utf8 joins stands3
text_fits3 = record {
  range = record {
    first = token 0 kinds_of.Identifier 61 1;
    last = token 0 kinds_of.Identifier 61 1;
    order = omega arith;
    has_first = refl;
    has_last = refl;
    first_written = written (token 0 kinds_of.Identifier 61 1) refl;
    last_written = written (token 0 kinds_of.Identifier 61 1) refl;
    begins = refl;
    ends = refl;
  };
  stands = stands3;
  tokens = refl;
  apart_before = refl;
  apart_behind = refl;
  line = λ _. refl;
}

tree_fits3 : TreeFits category.File (kinds old_tokens) file_tree rewrite3 (rewrite4 ∷ rewrite5 ∷ rewrite6 ∷ [])
unfolding span
tree_fits3 = record {
  stood = tree_in (subtree_at (2 ∷ 1 ∷ 0 ∷ 1 ∷ 0 ∷ 0 ∷ []) file_tree);
  category = category.Expression level.Primary place.Free;
  at_path = refl;
  asked = refl;
  place = refl;
  fits = ((refl, (refl, refl), refl, refl), refl, refl);
  behind_is = refl;
  edge = plain_edge file_kinds words3 22 refl refl;
}

stands4 : Stands 0 new4_text
unfolding width span begun_by is_white is_letter is_digit is_in_word is_in_run is_exponent is_power is_sign is_x is_b is_o is_digit_of letter_base goes operators punctuation outside_operators keywords general_category value_in general_category_rows encode_utf8 joins
stands4 = record {
  before = codes "";
  inner = codes "z1";
  behind = codes "";
  whole = refl;
  blank_before = refl;
  blank_behind = refl;
  tokens = new4_tokens;
  comments = new4_comments;
  lexes = new4_lexes;
  spans = record {
    first = token 0 kinds_of.Identifier 0 2;
    last = token 0 kinds_of.Identifier 0 2;
    has_first = among_get new4_tokens 0 (token 0 kinds_of.Identifier 0 2) refl;
    has_last = among_get new4_tokens 0 (token 0 kinds_of.Identifier 0 2) refl;
    first_written = written (token 0 kinds_of.Identifier 0 2) refl;
    last_written = written (token 0 kinds_of.Identifier 0 2) refl;
    begins = refl;
    ends = refl;
    some = omega arith;
  };
}

text_fits4 : TextFits 0 old_tokens 62 rewrite4 (old_text (edits (rewrite5 ∷ rewrite6 ∷ []) rest_text)) (new_text (edits (rewrite5 ∷ rewrite6 ∷ []) rest_text) tail_text)
unfolding width span begun_by is_white is_letter is_digit is_in_word is_in_run is_exponent is_power is_sign is_x is_b is_o is_digit_of letter_base goes operators punctuation outside_operators keywords general_category value_in general_category_rows encode_utf8 joins stands4
text_fits4 = record {
  range = record {
    first = token 0 kinds_of.Identifier 66 1;
    last = token 0 kinds_of.Identifier 66 1;
    order = omega arith;
    has_first = refl;
    has_last = refl;
    first_written = written (token 0 kinds_of.Identifier 66 1) refl;
    last_written = written (token 0 kinds_of.Identifier 66 1) refl;
    begins = refl;
    ends = refl;
  };
  stands = stands4;
  tokens = refl;
  apart_before = refl;
  apart_behind = refl;
  line = λ _. refl;
}

tree_fits4 : TreeFits category.File (kinds old_tokens) file_tree rewrite4 (rewrite5 ∷ rewrite6 ∷ [])
unfolding span
tree_fits4 = record {
  stood = tree_in (subtree_at (2 ∷ 1 ∷ 1 ∷ 0 ∷ 0 ∷ 0 ∷ 0 ∷ []) file_tree);
  category = category.Expression level.Primary place.Free;
  at_path = refl;
  asked = refl;
  place = refl;
  fits = ((refl, (refl, refl), refl, refl), refl, refl);
  behind_is = refl;
  edge = plain_edge file_kinds words4 26 refl refl;
}

stands5 : Stands 0 new5_text
unfolding width span begun_by is_white is_letter is_digit is_in_word is_in_run is_exponent is_power is_sign is_x is_b is_o is_digit_of letter_base goes operators punctuation outside_operators keywords general_category value_in general_category_rows encode_utf8 joins
stands5 = record {
  before = codes "";
  inner = codes "w";
  behind = codes "";
  whole = refl;
  blank_before = refl;
  blank_behind = refl;
  tokens = new5_tokens;
  comments = new5_comments;
  lexes = new5_lexes;
  spans = record {
    first = token 0 kinds_of.Identifier 0 1;
    last = token 0 kinds_of.Identifier 0 1;
    has_first = among_get new5_tokens 0 (token 0 kinds_of.Identifier 0 1) refl;
    has_last = among_get new5_tokens 0 (token 0 kinds_of.Identifier 0 1) refl;
    first_written = written (token 0 kinds_of.Identifier 0 1) refl;
    last_written = written (token 0 kinds_of.Identifier 0 1) refl;
    begins = refl;
    ends = refl;
    some = omega arith;
  };
}

text_fits5 : TextFits 0 old_tokens 67 rewrite5 (old_text (edits (rewrite6 ∷ []) rest_text)) (new_text (edits (rewrite6 ∷ []) rest_text) tail_text)
unfolding width span begun_by is_white is_letter is_digit is_in_word is_in_run is_exponent is_power is_sign is_x is_b is_o is_digit_of letter_base goes operators punctuation outside_operators keywords general_category value_in general_category_rows encode_utf8 joins stands5
text_fits5 = record {
  range = record {
    first = token 0 kinds_of.Identifier 72 1;
    last = token 0 kinds_of.Identifier 72 1;
    order = omega arith;
    has_first = refl;
    has_last = refl;
    first_written = written (token 0 kinds_of.Identifier 72 1) refl;
    last_written = written (token 0 kinds_of.Identifier 72 1) refl;
    begins = refl;
    ends = refl;
  };
  stands = stands5;
  tokens = refl;
  apart_before = refl;
  apart_behind = refl;
  line = λ _. refl;
}

tree_fits5 : TreeFits category.File (kinds old_tokens) file_tree rewrite5 (rewrite6 ∷ [])
unfolding span
tree_fits5 = record {
  stood = tree_in (subtree_at (2 ∷ 1 ∷ 1 ∷ 1 ∷ 0 ∷ []) file_tree);
  category = category.Expression level.Either place.Free;
  at_path = refl;
  asked = refl;
  place = refl;
  fits = ((refl, (refl, refl), refl, refl), refl, refl);
  behind_is = refl;
  edge = plain_edge file_kinds words5 30 refl refl;
}

stands6 : Stands 0 new6_text
unfolding width span begun_by is_white is_letter is_digit is_in_word is_in_run is_exponent is_power is_sign is_x is_b is_o is_digit_of letter_base goes operators punctuation outside_operators keywords general_category value_in general_category_rows encode_utf8 joins
stands6 = record {
  before = codes "";
  inner = codes "z1";
  behind = codes "";
  whole = refl;
  blank_before = refl;
  blank_behind = refl;
  tokens = new6_tokens;
  comments = new6_comments;
  lexes = new6_lexes;
  spans = record {
    first = token 0 kinds_of.Identifier 0 2;
    last = token 0 kinds_of.Identifier 0 2;
    has_first = among_get new6_tokens 0 (token 0 kinds_of.Identifier 0 2) refl;
    has_last = among_get new6_tokens 0 (token 0 kinds_of.Identifier 0 2) refl;
    first_written = written (token 0 kinds_of.Identifier 0 2) refl;
    last_written = written (token 0 kinds_of.Identifier 0 2) refl;
    begins = refl;
    ends = refl;
    some = omega arith;
  };
}

text_fits6 : TextFits 0 old_tokens 73 rewrite6 (old_text (edits ([]) rest_text)) (new_text (edits ([]) rest_text) tail_text)
unfolding width span begun_by is_white is_letter is_digit is_in_word is_in_run is_exponent is_power is_sign is_x is_b is_o is_digit_of letter_base goes operators punctuation outside_operators keywords general_category value_in general_category_rows encode_utf8 joins stands6
text_fits6 = record {
  range = record {
    first = token 0 kinds_of.Identifier 82 1;
    last = token 0 kinds_of.Identifier 82 1;
    order = omega arith;
    has_first = refl;
    has_last = refl;
    first_written = written (token 0 kinds_of.Identifier 82 1) refl;
    last_written = written (token 0 kinds_of.Identifier 82 1) refl;
    begins = refl;
    ends = refl;
  };
  stands = stands6;
  tokens = refl;
  apart_before = refl;
  apart_behind = refl;
  line = λ _. refl;
}

tree_fits6 : TreeFits category.File (kinds old_tokens) file_tree rewrite6 ([])
unfolding span
tree_fits6 = record {
  stood = tree_in (subtree_at (2 ∷ 1 ∷ 2 ∷ 0 ∷ 0 ∷ 0 ∷ []) file_tree);
  category = category.Expression level.Primary place.Free;
  at_path = refl;
  asked = refl;
  place = refl;
  fits = ((refl, (refl, refl), refl, refl), refl, refl);
  behind_is = refl;
  edge = plain_edge file_kinds words6 33 refl refl;
}

-- the text of the edits is this one
whole_text : new_text (edits rewrites rest_text) tail_text ≡ result_text
whole_text = refl

alike : AllAlike file_tree (sites_alone rewrites)
alike = (record { old = tree_in (subtree_at (2 ∷ 0 ∷ 0 ∷ 0 ∷ 0 ∷ []) file_tree); new = node kind.Name 0 1 none; stood = refl; is = refl; alike = (refl, tt) }, (record { old = tree_in (subtree_at (2 ∷ 1 ∷ 0 ∷ 0 ∷ 0 ∷ 0 ∷ []) file_tree); new = node kind.Name 0 1 none; stood = refl; is = refl; alike = (refl, tt) }, (record { old = tree_in (subtree_at (2 ∷ 1 ∷ 0 ∷ 1 ∷ 0 ∷ 0 ∷ []) file_tree); new = node kind.Name 0 1 none; stood = refl; is = refl; alike = (refl, tt) }, (record { old = tree_in (subtree_at (2 ∷ 1 ∷ 1 ∷ 0 ∷ 0 ∷ 0 ∷ 0 ∷ []) file_tree); new = node kind.Name 0 1 none; stood = refl; is = refl; alike = (refl, tt) }, (record { old = tree_in (subtree_at (2 ∷ 1 ∷ 1 ∷ 1 ∷ 0 ∷ []) file_tree); new = node kind.Name 0 1 none; stood = refl; is = refl; alike = (refl, tt) }, (record { old = tree_in (subtree_at (2 ∷ 1 ∷ 2 ∷ 0 ∷ 0 ∷ 0 ∷ []) file_tree); new = node kind.Name 0 1 none; stood = refl; is = refl; alike = (refl, tt) }, tt))))))

holds : NewFile 0 (encode_utf8_all result_text) old_tokens file_tree rewrites rest_text tail_text tail_tokens None
unfolding width span begun_by is_white is_letter is_digit is_in_word is_in_run is_exponent is_power is_sign is_x is_b is_o is_digit_of letter_base goes operators punctuation outside_operators keywords general_category value_in general_category_rows encode_utf8 joins
holds = new_file 0 (encode_utf8_all old_text_is) (encode_utf8_all result_text) old_tokens old_comments file_tree rewrites rest_text tail_text tail_tokens None (record {
  old_bytes = record { scalars = refl; encoded = refl; allowed = refl };
  new_bytes = record { scalars = refl; encoded = refl; allowed = refl };
  lexing = record { text = old_text_is; is_text = record { scalars = refl; encoded = refl; allowed = refl }; lexes = old_lexes };
  tree = file_is;
  texts = (text_fits1, (text_fits2, (text_fits3, (text_fits4, (text_fits5, (text_fits6, tt))))));
  trees = (tree_fits1, (tree_fits2, (tree_fits3, (tree_fits4, (tree_fits5, (tree_fits6, tt))))));
  agrees = alike_rewrites (kinds old_tokens) category.File file_tree rewrites file_is.derives alike;
  shallow = omega arith;
  appended = record { begins = refl; comments = tail_comments; lexes = tail_lexes };
  added_fits = refl;
})

pub all : NamesExample
all = record { whole_text = whole_text; holds = holds }
