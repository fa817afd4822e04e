-- The examples compute.
use Rattle.std.proofs.Common.{refl}
use Rattle.std.specs.Char.{encode_utf8}
use Rattle.go_tokens.specs.Literals.{is_digit_of, letter_base}
use Rattle.go_types_relations.specs.Questions.{answers}
use Rattle.go_types_relations.specs.Tests.{is_assignable}
use Rattle.go_exprs_rules.specs.Faults.{sooner}
use Rattle.go_exprs_rules.specs.LiteralExamples.{LiteralExamples}

pub literal_examples_hold : LiteralExamples
unfolding sooner answers is_assignable is_digit_of letter_base encode_utf8
literal_examples_hold = record {
  empty = refl;
  in_order = refl;
  by_key = refl;
  too_few_fields = refl;
  unknown_key = refl;
  mixture = refl;
  wrong_field = refl;
  wrong_place = refl;
  array_elements = refl;
  wide_element = refl;
  wrong_fourth = refl;
  fourth = refl;
  keyed_array = refl;
  elided = refl;
  elided_in_struct = refl;
  elided_number = refl;
  no_literal = refl;
  open_elements = refl;
  nested = refl;
  wrong_elided = refl;
  comparison_element = refl;
}
