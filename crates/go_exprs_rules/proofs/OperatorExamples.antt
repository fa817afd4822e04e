-- The examples compute.
use Rattle.std.proofs.Common.{refl}
use Rattle.std.specs.Char.{encode_utf8}
use Rattle.go_tokens.specs.Literals.{is_digit_of, letter_base}
use Rattle.go_types_relations.specs.Questions.{answers}
use Rattle.go_types_relations.specs.Tests.{is_assignable}
use Rattle.go_exprs_rules.specs.Faults.{sooner}
use Rattle.go_exprs_rules.specs.OperatorExamples.{OperatorExamples}

pub operator_examples_hold : OperatorExamples
unfolding sooner answers is_assignable is_digit_of letter_base encode_utf8
operator_examples_hold = record {
  negated = refl;
  denied = refl;
  complemented = refl;
  negated_text = refl;
  denied_number = refl;
  all_bits = refl;
  least_negated = refl;
  untyped_complement = refl;
  sum = refl;
  rune_and_integer = refl;
  joined = refl;
  both = refl;
  other_types = refl;
  texts_subtracted = refl;
  constant_divisor = refl;
  typed_overflow = refl;
  operand_out_of_range = refl;
  operand_in_range = refl;
  untyped_range = refl;
  divided = refl;
  wide_product = refl;
  declared_and_its_right_side = refl;
  nil_sum = refl;
}
