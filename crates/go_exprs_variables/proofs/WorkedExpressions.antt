-- The worked expressions compute.
use Rattle.std.proofs.Common.{[], ◌∷◌, refl}
use Rattle.std.specs.Char.{encode_utf8}
use Rattle.ucd_category.specs.GeneralCategory.{general_category}
use Rattle.ucd_category.specs.GeneralCategoryRows.{general_category_rows}
use Rattle.ucd_table.specs.Rows.{value_in}
use Rattle.go_tokens.specs.Characters.{is_white, is_letter, is_digit, is_in_word, is_in_run, is_exponent, is_power, is_sign, is_x, is_b, is_o}
use Rattle.go_tokens.specs.Lexing.{width, span}
use Rattle.go_tokens.specs.Literals.{letter_base, is_digit_of}
use Rattle.go_tokens.specs.Pieces.{begun_by, goes}
use Rattle.go_tokens.specs.Spellings.{keywords, punctuation, outside_operators, operators}
use Rattle.go_tokens.proofs.Public.{lexes_by_test}
use Rattle.go_types.specs.Trees.{boolean, text, slice, declared}
use Rattle.go_types_relations.specs.Questions.{answers}
use Rattle.go_types_relations.specs.Tests.{is_assignable}
use Rattle.go_typed.specs.declared.sort.Untyped.TheVariants as untyped
use Rattle.go_typed.specs.Trees as sort
use Rattle.go_exprs_rules.specs.Faults.{sooner}
use Rattle.go_exprs_rules.specs.Sorts.{int}
use Rattle.go_exprs_variables.specs.WorkedExpressions as worked
use Rattle.go_exprs_variables.specs.WorkedExpressions.{WorkedExpressions, IsParsed, Varied, hole, int8, bytes}

shift_before : IsParsed worked.shift_before
unfolding width span begun_by is_white is_letter is_digit is_in_word is_in_run is_exponent is_power is_sign is_x is_b is_o is_digit_of letter_base goes operators punctuation outside_operators keywords general_category value_in general_category_rows encode_utf8
shift_before = record { lexes = lexes_by_test 0 worked.shift_before.pieces refl; kinds = refl; words = refl; tree = refl }

shift_after : IsParsed worked.shift_after
unfolding width span begun_by is_white is_letter is_digit is_in_word is_in_run is_exponent is_power is_sign is_x is_b is_o is_digit_of letter_base goes operators punctuation outside_operators keywords general_category value_in general_category_rows encode_utf8
shift_after = record { lexes = lexes_by_test 0 worked.shift_after.pieces refl; kinds = refl; words = refl; tree = refl }

shift : Varied (hole 0 1 int8 ∷ []) worked.shift_before worked.shift_after (sort.Value int8)
unfolding sooner answers is_assignable is_digit_of letter_base encode_utf8
shift = record { before = shift_before; after = shift_after; tree = refl; typed = refl; failing = refl; stands = refl }

compared_shifts_before : IsParsed worked.compared_shifts_before
unfolding width span begun_by is_white is_letter is_digit is_in_word is_in_run is_exponent is_power is_sign is_x is_b is_o is_digit_of letter_base goes operators punctuation outside_operators keywords general_category value_in general_category_rows encode_utf8
compared_shifts_before = record { lexes = lexes_by_test 0 worked.compared_shifts_before.pieces refl; kinds = refl; words = refl; tree = refl }

compared_shifts_after : IsParsed worked.compared_shifts_after
unfolding width span begun_by is_white is_letter is_digit is_in_word is_in_run is_exponent is_power is_sign is_x is_b is_o is_digit_of letter_base goes operators punctuation outside_operators keywords general_category value_in general_category_rows encode_utf8
compared_shifts_after = record { lexes = lexes_by_test 0 worked.compared_shifts_after.pieces refl; kinds = refl; words = refl; tree = refl }

compared_shifts : Varied (hole 0 1 int ∷ hole 4 5 int ∷ []) worked.compared_shifts_before worked.compared_shifts_after (sort.Open untyped.Boolean)
unfolding sooner answers is_assignable is_digit_of letter_base encode_utf8
compared_shifts = record { before = compared_shifts_before; after = compared_shifts_after; tree = refl; typed = refl; failing = refl; stands = refl }

index_before : IsParsed worked.index_before
unfolding width span begun_by is_white is_letter is_digit is_in_word is_in_run is_exponent is_power is_sign is_x is_b is_o is_digit_of letter_base goes operators punctuation outside_operators keywords general_category value_in general_category_rows encode_utf8
index_before = record { lexes = lexes_by_test 0 worked.index_before.pieces refl; kinds = refl; words = refl; tree = refl }

index_after : IsParsed worked.index_after
unfolding width span begun_by is_white is_letter is_digit is_in_word is_in_run is_exponent is_power is_sign is_x is_b is_o is_digit_of letter_base goes operators punctuation outside_operators keywords general_category value_in general_category_rows encode_utf8
index_after = record { lexes = lexes_by_test 0 worked.index_after.pieces refl; kinds = refl; words = refl; tree = refl }

index : Varied (hole 2 3 int ∷ []) worked.index_before worked.index_after (sort.Value int)
unfolding sooner answers is_assignable is_digit_of letter_base encode_utf8
index = record { before = index_before; after = index_after; tree = refl; typed = refl; failing = refl; stands = refl }

conjunction_before : IsParsed worked.conjunction_before
unfolding width span begun_by is_white is_letter is_digit is_in_word is_in_run is_exponent is_power is_sign is_x is_b is_o is_digit_of letter_base goes operators punctuation outside_operators keywords general_category value_in general_category_rows encode_utf8
conjunction_before = record { lexes = lexes_by_test 0 worked.conjunction_before.pieces refl; kinds = refl; words = refl; tree = refl }

conjunction_after : IsParsed worked.conjunction_after
unfolding width span begun_by is_white is_letter is_digit is_in_word is_in_run is_exponent is_power is_sign is_x is_b is_o is_digit_of letter_base goes operators punctuation outside_operators keywords general_category value_in general_category_rows encode_utf8
conjunction_after = record { lexes = lexes_by_test 0 worked.conjunction_after.pieces refl; kinds = refl; words = refl; tree = refl }

conjunction : Varied (hole 0 1 boolean ∷ []) worked.conjunction_before worked.conjunction_after (sort.Value boolean)
unfolding sooner answers is_assignable is_digit_of letter_base encode_utf8
conjunction = record { before = conjunction_before; after = conjunction_after; tree = refl; typed = refl; failing = refl; stands = refl }

text_of_number_before : IsParsed worked.text_of_number_before
unfolding width span begun_by is_white is_letter is_digit is_in_word is_in_run is_exponent is_power is_sign is_x is_b is_o is_digit_of letter_base goes operators punctuation outside_operators keywords general_category value_in general_category_rows encode_utf8
text_of_number_before = record { lexes = lexes_by_test 0 worked.text_of_number_before.pieces refl; kinds = refl; words = refl; tree = refl }

text_of_number_after : IsParsed worked.text_of_number_after
unfolding width span begun_by is_white is_letter is_digit is_in_word is_in_run is_exponent is_power is_sign is_x is_b is_o is_digit_of letter_base goes operators punctuation outside_operators keywords general_category value_in general_category_rows encode_utf8
text_of_number_after = record { lexes = lexes_by_test 0 worked.text_of_number_after.pieces refl; kinds = refl; words = refl; tree = refl }

text_of_number : Varied (hole 4 5 int ∷ []) worked.text_of_number_before worked.text_of_number_after (sort.Value text)
unfolding sooner answers is_assignable is_digit_of letter_base encode_utf8
text_of_number = record { before = text_of_number_before; after = text_of_number_after; tree = refl; typed = refl; failing = refl; stands = refl }

bytes_of_text_before : IsParsed worked.bytes_of_text_before
unfolding width span begun_by is_white is_letter is_digit is_in_word is_in_run is_exponent is_power is_sign is_x is_b is_o is_digit_of letter_base goes operators punctuation outside_operators keywords general_category value_in general_category_rows encode_utf8
bytes_of_text_before = record { lexes = lexes_by_test 0 worked.bytes_of_text_before.pieces refl; kinds = refl; words = refl; tree = refl }

bytes_of_text_after : IsParsed worked.bytes_of_text_after
unfolding width span begun_by is_white is_letter is_digit is_in_word is_in_run is_exponent is_power is_sign is_x is_b is_o is_digit_of letter_base goes operators punctuation outside_operators keywords general_category value_in general_category_rows encode_utf8
bytes_of_text_after = record { lexes = lexes_by_test 0 worked.bytes_of_text_after.pieces refl; kinds = refl; words = refl; tree = refl }

bytes_of_text : Varied (hole 4 5 text ∷ []) worked.bytes_of_text_before worked.bytes_of_text_after (sort.Value bytes)
unfolding sooner answers is_assignable is_digit_of letter_base encode_utf8
bytes_of_text = record { before = bytes_of_text_before; after = bytes_of_text_after; tree = refl; typed = refl; failing = refl; stands = refl }

arguments_before : IsParsed worked.arguments_before
unfolding width span begun_by is_white is_letter is_digit is_in_word is_in_run is_exponent is_power is_sign is_x is_b is_o is_digit_of letter_base goes operators punctuation outside_operators keywords general_category value_in general_category_rows encode_utf8
arguments_before = record { lexes = lexes_by_test 0 worked.arguments_before.pieces refl; kinds = refl; words = refl; tree = refl }

arguments_after : IsParsed worked.arguments_after
unfolding width span begun_by is_white is_letter is_digit is_in_word is_in_run is_exponent is_power is_sign is_x is_b is_o is_digit_of letter_base goes operators punctuation outside_operators keywords general_category value_in general_category_rows encode_utf8
arguments_after = record { lexes = lexes_by_test 0 worked.arguments_after.pieces refl; kinds = refl; words = refl; tree = refl }

arguments : Varied (hole 2 3 int ∷ hole 4 5 text ∷ []) worked.arguments_before worked.arguments_after (sort.Value boolean)
unfolding sooner answers is_assignable is_digit_of letter_base encode_utf8
arguments = record { before = arguments_before; after = arguments_after; tree = refl; typed = refl; failing = refl; stands = refl }

appended_before : IsParsed worked.appended_before
unfolding width span begun_by is_white is_letter is_digit is_in_word is_in_run is_exponent is_power is_sign is_x is_b is_o is_digit_of letter_base goes operators punctuation outside_operators keywords general_category value_in general_category_rows encode_utf8
appended_before = record { lexes = lexes_by_test 0 worked.appended_before.pieces refl; kinds = refl; words = refl; tree = refl }

appended_after : IsParsed worked.appended_after
unfolding width span begun_by is_white is_letter is_digit is_in_word is_in_run is_exponent is_power is_sign is_x is_b is_o is_digit_of letter_base goes operators punctuation outside_operators keywords general_category value_in general_category_rows encode_utf8
appended_after = record { lexes = lexes_by_test 0 worked.appended_after.pieces refl; kinds = refl; words = refl; tree = refl }

appended : Varied (hole 4 5 int ∷ []) worked.appended_before worked.appended_after (sort.Value (slice int))
unfolding sooner answers is_assignable is_digit_of letter_base encode_utf8
appended = record { before = appended_before; after = appended_after; tree = refl; typed = refl; failing = refl; stands = refl }

least_before : IsParsed worked.least_before
unfolding width span begun_by is_white is_letter is_digit is_in_word is_in_run is_exponent is_power is_sign is_x is_b is_o is_digit_of letter_base goes operators punctuation outside_operators keywords general_category value_in general_category_rows encode_utf8
least_before = record { lexes = lexes_by_test 0 worked.least_before.pieces refl; kinds = refl; words = refl; tree = refl }

least_after : IsParsed worked.least_after
unfolding width span begun_by is_white is_letter is_digit is_in_word is_in_run is_exponent is_power is_sign is_x is_b is_o is_digit_of letter_base goes operators punctuation outside_operators keywords general_category value_in general_category_rows encode_utf8
least_after = record { lexes = lexes_by_test 0 worked.least_after.pieces refl; kinds = refl; words = refl; tree = refl }

least : Varied (hole 4 5 int ∷ []) worked.least_before worked.least_after (sort.Value int)
unfolding sooner answers is_assignable is_digit_of letter_base encode_utf8
least = record { before = least_before; after = least_after; tree = refl; typed = refl; failing = refl; stands = refl }

field_before : IsParsed worked.field_before
unfolding width span begun_by is_white is_letter is_digit is_in_word is_in_run is_exponent is_power is_sign is_x is_b is_o is_digit_of letter_base goes operators punctuation outside_operators keywords general_category value_in general_category_rows encode_utf8
field_before = record { lexes = lexes_by_test 0 worked.field_before.pieces refl; kinds = refl; words = refl; tree = refl }

field_after : IsParsed worked.field_after
unfolding width span begun_by is_white is_letter is_digit is_in_word is_in_run is_exponent is_power is_sign is_x is_b is_o is_digit_of letter_base goes operators punctuation outside_operators keywords general_category value_in general_category_rows encode_utf8
field_after = record { lexes = lexes_by_test 0 worked.field_after.pieces refl; kinds = refl; words = refl; tree = refl }

field : Varied (hole 4 5 int ∷ []) worked.field_before worked.field_after (sort.Value (declared 1))
unfolding sooner answers is_assignable is_digit_of letter_base encode_utf8
field = record { before = field_before; after = field_after; tree = refl; typed = refl; failing = refl; stands = refl }

-- All of them hold.
pub worked_expressions_hold : WorkedExpressions
worked_expressions_hold = record {
  shift = shift;
  compared_shifts = compared_shifts;
  index = index;
  conjunction = conjunction;
  text_of_number = text_of_number;
  bytes_of_text = bytes_of_text;
  arguments = arguments;
  appended = appended;
  least = least;
  field = field;
}
