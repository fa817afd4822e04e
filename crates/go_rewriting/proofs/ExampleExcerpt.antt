-- The worked example of an excerpt.
use Rattle.std.proofs.Common.{◌≡◌, ℕ, List, [], ◌∷◌, ◌++◌, length, Some, refl, sym, subst, codes, arith}
use Rattle.std.specs.Char.{encode_utf8}
use Rattle.ucd_category.specs.GeneralCategory.{general_category}
use Rattle.ucd_category.specs.GeneralCategoryRows.{general_category_rows}
use Rattle.ucd_table.specs.Rows.{value_in}
use Rattle.go_base.specs.declared.Span.{Span}
use Rattle.go_tokens.specs.declared.token.TokenKind.TheVariants as kinds_of
use Rattle.go_tokens.specs.Characters.{is_white, is_letter, is_digit, is_in_word, is_in_run, is_exponent, is_power, is_sign, is_x, is_b, is_o}
use Rattle.go_tokens.specs.Spellings.{keywords, punctuation, outside_operators, operators}
use Rattle.go_tokens.specs.Literals.{letter_base, is_digit_of}
use Rattle.go_tokens.specs.Pieces.{begun_by, goes}
use Rattle.go_tokens.specs.Lexing.{width, span, token, Lexes}
use Rattle.go_tokens.specs.Tokens.{kinds}
use Rattle.go_tokens.proofs.Public.{lexes_by_test}
use Rattle.go_grammar.specs.declared.kind.Category.TheVariants as category
use Rattle.go_grammar.specs.Trees.{kind_of, first, last, parts}
use Rattle.go_grammar.specs.Grammar.{Derives}
use Rattle.go_grammar.proofs.Public.{read_stands}
use Rattle.go_rewriting.specs.Replacing.{moved, Run}
use Rattle.go_rewriting.specs.Places.{carries}
use Rattle.go_rewriting.specs.Lists.{Subtree, in_block, run_at}
use Rattle.go_rewriting.proofs.Subtrees.{subtree_of, node_run}
use Rattle.go_rewriting.specs.Excerpts.{Excerpt}
use Rattle.go_rewriting.proofs.Excerpts.{excerpt}
use Rattle.go_rewriting.proofs.Copied.{copied_run}
use Rattle.go_rewriting.specs.Rewriting.{own}
use Rattle.go_rewriting.proofs.Testing.{written}
use Rattle.go_rewriting.specs.ExampleExcerpt.{ExcerptExample, whole_text, old_tokens, file_kinds, file_tree, body, statements_text}

abbrev old_pieces : List (List ℕ)
old_pieces = codes "package" ∷ codes " " ∷ codes "main" ∷ codes "\n" ∷ codes "\n" ∷ codes "func" ∷ codes " " ∷ codes "f" ∷ codes "(" ∷ codes "a" ∷ codes " " ∷ codes "int" ∷ codes ")" ∷ codes " " ∷ codes "int" ∷ codes " " ∷ codes "{" ∷ codes "\n" ∷ codes "\t" ∷ codes "b" ∷ codes " " ∷ codes ":=" ∷ codes " " ∷ codes "a" ∷ codes " " ∷ codes "+" ∷ codes " " ∷ codes "1" ∷ codes " " ∷ codes "// one more" ∷ codes "\n" ∷ codes "\t" ∷ codes "b" ∷ codes " " ∷ codes "=" ∷ codes " " ∷ codes "b" ∷ codes " " ∷ codes "*" ∷ codes " " ∷ codes "2" ∷ codes "\n" ∷ codes "\t" ∷ codes "return" ∷ codes " " ∷ codes "b" ∷ codes "\n" ∷ codes "}" ∷ codes "\n" ∷ []

abbrev old_comments : List Span
old_comments = span 0 46 11 ∷ []

old_lexes : Lexes 0 whole_text old_tokens old_comments
unfolding width span begun_by is_white is_letter is_digit is_in_word is_in_run is_exponent is_power is_sign is_x is_b is_o is_digit_of letter_base goes operators punctuation outside_operators keywords general_category value_in general_category_rows encode_utf8
old_lexes = lexes_by_test 0 old_pieces refl

found : Excerpt 0 whole_text old_tokens 11 22 (token 0 kinds_of.Integer 67 1) statements_text
unfolding width span begun_by is_white is_letter is_digit is_in_word is_in_run is_exponent is_power is_sign is_x is_b is_o is_digit_of letter_base goes operators punctuation outside_operators keywords general_category value_in general_category_rows encode_utf8
found = excerpt 0 whole_text (codes "package main\n\nfunc f(a int) int {\n\t") statements_text (codes "\n\treturn b\n}\n") old_tokens old_comments 11 22 old_lexes refl (record {
  first = token 0 kinds_of.Identifier 35 1;
  last = token 0 kinds_of.Integer 67 1;
  order = omega arith;
  has_first = refl;
  has_last = refl;
  first_written = written (token 0 kinds_of.Identifier 35 1) refl;
  last_written = written (token 0 kinds_of.Integer 67 1) refl;
  begins = refl;
  ends = refl;
})

body_is : Derives file_kinds category.Block body
body_is =
    let s : Subtree file_kinds category.File file_tree (1 ∷ 1 ∷ []) body = subtree_of file_kinds (1 ∷ 1 ∷ []) file_tree category.File body (read_stands file_kinds 60 101 category.File 0 file_tree refl).0 refl in
    let asked : Some category.Block ≡ Some s.category = s.asked in
    let same : category.Block ≡ s.category = cc in
    subst (λ c. Derives file_kinds c body) (sym same) s.derives

-- the two statements of the body
copied : Run (kinds (own found.stands.tokens) ++ kinds_of.Semicolon ∷ []) in_block (carries (moved 11 0) (run_at 0 1 (parts body))) 0 (length (kinds (own found.stands.tokens)))
copied = copied_run 0 whole_text old_tokens 11 22 (token 0 kinds_of.Integer 67 1) statements_text found in_block (run_at 0 1 (parts body)) (kinds_of.Semicolon ∷ []) (omega arith) refl (node_run file_kinds 0 1 (kind_of body) (first body) (last body) (parts body) category.Block in_block body_is refl refl) refl

pub all : ExcerptExample
all = record { found = found; copied = copied }
