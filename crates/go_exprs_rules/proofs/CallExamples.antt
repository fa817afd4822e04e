-- The examples compute.
use Rattle.std.proofs.Common.{refl}
use Rattle.std.specs.Char.{encode_utf8}
use Rattle.go_tokens.specs.Literals.{is_digit_of, letter_base}
use Rattle.go_types_relations.specs.Questions.{answers}
use Rattle.go_types_relations.specs.Tests.{is_assignable}
use Rattle.go_exprs_rules.specs.Faults.{sooner}
use Rattle.go_exprs_rules.specs.CallExamples.{CallExamples}

pub call_examples_hold : CallExamples
unfolding sooner answers is_assignable is_digit_of letter_base encode_utf8
call_examples_hold = record {
  called = refl;
  too_few = refl;
  wrong_argument = refl;
  wide_argument = refl;
  number_called = refl;
  several_results = refl;
  several_as_one = refl;
  no_result = refl;
  no_result_stated = refl;
  shifted_argument = refl;
  both_wrong = refl;
  kept = refl;
  not_represented = refl;
  text_of_character = refl;
  no_character = refl;
  wide_character = refl;
  nil_converted = refl;
  nil_takes_converted = refl;
  nil_to_number = refl;
  to_right_side = refl;
  same_elements = refl;
  wrapped = refl;
  number_to_text = refl;
  bytes_of_text = refl;
  text_of_bytes = refl;
  boolean_of_number = refl;
  open_shift_converted = refl;
  open_shift_to_text = refl;
  two_converted = refl;
  comparison_converted = refl;
  constant_text_converted = refl;
  rune_kept = refl;
  in_parentheses = refl;
  length = refl;
  constant_length = refl;
  array_length = refl;
  array_with_call = refl;
  array_without_call = refl;
  capacity_of_text = refl;
  length_of_number = refl;
  no_argument = refl;
  made = refl;
  disordered_sizes = refl;
  texts_as_sizes = refl;
  no_size = refl;
  value_made = refl;
  array_made = refl;
  negative_size = refl;
  many_sizes = refl;
  appended = refl;
  wide_appended = refl;
  appended_to_nil = refl;
  nothing_appended = refl;
  copied = refl;
  other_elements = refl;
  one_copied = refl;
  text_into_numbers = refl;
  stopped = refl;
  stopped_with_slice = refl;
  printed = refl;
  wide_printed = refl;
  nil_printed = refl;
  predeclared_alone = refl;
  panic_as_value = refl;
  least = refl;
  least_with_rune = refl;
  own_defaults = refl;
  greatest_text = refl;
  wide_greatest = refl;
  least_of_none = refl;
  number_and_text = refl;
  least_boolean = refl;
  number_and_nil = refl;
  two_types = refl;
  wide_argument_of_least = refl;
  named_least = refl;
  untyped_take_named = refl;
  typed_constants = refl;
  open_shift_least = refl;
  take_the_default = refl;
  wide_beside_shift = refl;
  several_in_parentheses = refl;
  none_in_parentheses = refl;
  right_side_in_parentheses = refl;
}
