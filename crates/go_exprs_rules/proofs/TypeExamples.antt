-- The examples compute.
use Rattle.std.proofs.Common.{refl}
use Rattle.std.specs.Char.{encode_utf8}
use Rattle.go_tokens.specs.Literals.{is_digit_of, letter_base}
use Rattle.go_types_relations.specs.Questions.{answers}
use Rattle.go_types_relations.specs.Tests.{is_assignable}
use Rattle.go_exprs_rules.specs.Faults.{sooner}
use Rattle.go_exprs_rules.specs.TypeExamples.{TypeExamples}

pub type_examples_hold : TypeExamples
unfolding sooner answers is_assignable is_digit_of letter_base encode_utf8
type_examples_hold = record {
  array_type = refl;
  slice_type = refl;
  length_no_constant = refl;
  length_no_integer = refl;
  negative_length = refl;
  at_limit = refl;
  above_limit = refl;
  two_dimensions = refl;
  wide_length = refl;
  constant_length = refl;
  open_length = refl;
  variable_in_parentheses = refl;
  struct_type = refl;
  function_type = refl;
  unnamed_parameters = refl;
  parenthesized_type = refl;
  value_as_type = refl;
  elements_no_type = refl;
  type_as_value = refl;
  type_as_operand = refl;
  type_in_parentheses = refl;
  blank_as_value = refl;
  unknown_part = refl;
  nothing_stated = refl;
  first_of_two = refl;
}
