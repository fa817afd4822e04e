-- The worked example of a function.
use Rattle.std.proofs.Common.{◌≡◌, ℕ, true, List, [], ◌∷◌, refl, codes, arith}
use Rattle.std.specs.Char.{encode_utf8}
use Rattle.ucd_category.specs.GeneralCategory.{general_category}
use Rattle.ucd_category.specs.GeneralCategoryRows.{general_category_rows}
use Rattle.ucd_table.specs.Rows.{value_in}
use Rattle.go_base.specs.declared.Span.{Span}
use Rattle.go_tokens.specs.declared.token.TokenKind.{TokenKind}
use Rattle.go_tokens.specs.declared.token.TokenKind.TheVariants as kinds_of
use Rattle.go_tokens.specs.Characters.{is_white, is_letter, is_digit, is_in_word, is_in_run, is_exponent, is_power, is_sign, is_x, is_b, is_o}
use Rattle.go_tokens.specs.Spellings.{keywords, punctuation, outside_operators, operators}
use Rattle.go_tokens.specs.Literals.{letter_base, is_digit_of}
use Rattle.go_tokens.specs.Pieces.{begun_by, goes}
use Rattle.go_tokens.specs.Lexing.{width, span, token, Lexes}
use Rattle.go_tokens.specs.Tokens.{kinds}
use Rattle.go_tokens.specs.Replacing.{joins}
use Rattle.go_tokens.specs.Editing.{Stands, old_text, new_text}
use Rattle.go_tokens.proofs.Public.{lexes_by_test}
use Rattle.go_grammar.specs.declared.kind.Category.TheVariants as category
use Rattle.go_grammar.proofs.Public.{read_stands}
use Rattle.go_rewriting.specs.Replacing.{subtree_at}
use Rattle.go_rewriting.specs.Places.{IsDeclaration}
use Rattle.go_rewriting.specs.Rewriting.{edits, TextFits, TreeFits, NewDeclaration}
use Rattle.go_rewriting.proofs.Tokens.{among_get}
use Rattle.go_rewriting.proofs.Rewritten.{new_declaration}
use Rattle.go_rewriting.specs.Lists.{in_block}
use Rattle.go_rewriting.specs.Readings.{tree_in, statement_at}
use Rattle.go_rewriting.proofs.Testing.{written, statements_run, plain_edge}
use Rattle.go_rewriting.specs.ExampleFunction.{FunctionExample, old_tokens, file_kinds, file_tree, new1_text, new1_tokens, all1, rewrite1, rewrites, rest_text, tail_text, result_text}

abbrev old_text_is : List ℕ
old_text_is = codes "\nfunc addmul(a int, p0 int) int {\naddmul()\nreturn b\n}\n"

abbrev old_pieces : List (List ℕ)
old_pieces = codes "\n" ∷ codes "func" ∷ codes " " ∷ codes "addmul" ∷ codes "(" ∷ codes "a" ∷ codes " " ∷ codes "int" ∷ codes "," ∷ codes " " ∷ codes "p0" ∷ codes " " ∷ codes "int" ∷ codes ")" ∷ codes " " ∷ codes "int" ∷ codes " " ∷ codes "{" ∷ codes "\n" ∷ codes "addmul" ∷ codes "(" ∷ codes ")" ∷ codes "\n" ∷ codes "return" ∷ codes " " ∷ codes "b" ∷ codes "\n" ∷ codes "}" ∷ codes "\n" ∷ []

abbrev old_comments : List Span
old_comments = []

old_lexes : Lexes 0 old_text_is old_tokens old_comments
unfolding width span begun_by is_white is_letter is_digit is_in_word is_in_run is_exponent is_power is_sign is_x is_b is_o is_digit_of letter_base goes operators punctuation outside_operators keywords general_category value_in general_category_rows encode_utf8
old_lexes = lexes_by_test 0 old_pieces refl

file_is : IsDeclaration (kinds old_tokens) file_tree
file_is = let r = read_stands file_kinds 60 100 category.Declaration 0 file_tree refl in record { derives = r.0; begins = refl; closed = refl; all = refl; shallow = r.2 }

abbrev new1_pieces : List (List ℕ)
new1_pieces = codes "b" ∷ codes " " ∷ codes ":=" ∷ codes " " ∷ codes "a" ∷ codes " " ∷ codes "+" ∷ codes " " ∷ codes "1" ∷ codes " " ∷ codes "// one more" ∷ codes "\n" ∷ codes "\t" ∷ codes "b" ∷ codes " " ∷ codes "=" ∷ codes " " ∷ codes "b" ∷ codes " " ∷ codes "*" ∷ codes " " ∷ codes "2" ∷ []

abbrev new1_comments : List Span
new1_comments = span 0 11 11 ∷ []

new1_lexes : Lexes 0 new1_text new1_tokens new1_comments
unfolding width span begun_by is_white is_letter is_digit is_in_word is_in_run is_exponent is_power is_sign is_x is_b is_o is_digit_of letter_base goes operators punctuation outside_operators keywords general_category value_in general_category_rows encode_utf8
new1_lexes = lexes_by_test 0 new1_pieces refl

abbrev words1 : List TokenKind
words1 = kinds_of.Identifier ∷ kinds_of.Define ∷ kinds_of.Identifier ∷ kinds_of.Plus ∷ kinds_of.Integer ∷ kinds_of.Semicolon ∷ kinds_of.Identifier ∷ kinds_of.Assign ∷ kinds_of.Identifier ∷ kinds_of.Star ∷ kinds_of.Integer ∷ []

stands1 : Stands 0 new1_text
unfolding width span begun_by is_white is_letter is_digit is_in_word is_in_run is_exponent is_power is_sign is_x is_b is_o is_digit_of letter_base goes operators punctuation outside_operators keywords general_category value_in general_category_rows encode_utf8 joins
stands1 = record {
  before = codes "";
  inner = codes "b := a + 1 // one more\n\tb = b * 2";
  behind = codes "";
  whole = refl;
  blank_before = refl;
  blank_behind = refl;
  tokens = new1_tokens;
  comments = new1_comments;
  lexes = new1_lexes;
  spans = record {
    first = token 0 kinds_of.Identifier 0 1;
    last = token 0 kinds_of.Integer 32 1;
    has_first = among_get new1_tokens 0 (token 0 kinds_of.Identifier 0 1) refl;
    has_last = among_get new1_tokens 10 (token 0 kinds_of.Integer 32 1) refl;
    first_written = written (token 0 kinds_of.Identifier 0 1) refl;
    last_written = written (token 0 kinds_of.Integer 32 1) refl;
    begins = refl;
    ends = refl;
    some = omega arith;
  };
}

text_fits1 : TextFits 0 old_tokens 0 rewrite1 (old_text (edits ([]) rest_text)) (new_text (edits ([]) rest_text) tail_text)
unfolding width span begun_by is_white is_letter is_digit is_in_word is_in_run is_exponent is_power is_sign is_x is_b is_o is_digit_of letter_base goes operators punctuation outside_operators keywords general_category value_in general_category_rows encode_utf8 joins stands1
text_fits1 = record {
  range = record {
    first = token 0 kinds_of.Identifier 34 6;
    last = token 0 kinds_of.RightParenthesis 41 1;
    order = omega arith;
    has_first = refl;
    has_last = refl;
    first_written = written (token 0 kinds_of.Identifier 34 6) refl;
    last_written = written (token 0 kinds_of.RightParenthesis 41 1) refl;
    begins = refl;
    ends = refl;
  };
  stands = stands1;
  tokens = refl;
  apart_before = refl;
  apart_behind = refl;
  line = λ _. refl;
}

tree_fits1 : TreeFits category.Declaration (kinds old_tokens) file_tree rewrite1 ([])
unfolding span
tree_fits1 = record {
  stood = tree_in (subtree_at (1 ∷ []) file_tree);
  category = category.Block;
  at_path = refl;
  asked = refl;
  place = refl;
  fits = record { list = in_block; is_list = refl; has = refl; run = statements_run all1 true 1 (statement_at all1 0) 0 11 refl refl };
  behind_is = refl;
  edge = plain_edge file_kinds words1 11 refl refl;
}

-- the text of the edits is this one
whole_text : new_text (edits rewrites rest_text) tail_text ≡ result_text
whole_text = refl

holds : NewDeclaration 0 old_tokens file_tree rewrites rest_text
unfolding width span begun_by is_white is_letter is_digit is_in_word is_in_run is_exponent is_power is_sign is_x is_b is_o is_digit_of letter_base goes operators punctuation outside_operators keywords general_category value_in general_category_rows encode_utf8 joins
holds = new_declaration 0 old_tokens old_comments file_tree rewrites rest_text (record { lexes = old_lexes; derives = file_is.derives; texts = (text_fits1, tt); trees = (tree_fits1, tt); agrees = refl }) file_is (omega arith)

pub all : FunctionExample
all = record { whole_text = whole_text; holds = holds }
