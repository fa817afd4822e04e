-- The examples compute.
use Rattle.std.proofs.Common.{refl}
use Rattle.std.specs.Char.{encode_utf8}
use Rattle.go_tokens.specs.Literals.{is_digit_of, letter_base}
use Rattle.go_types_relations.specs.Questions.{answers}
use Rattle.go_types_relations.specs.Tests.{is_assignable}
use Rattle.go_exprs_rules.specs.Faults.{sooner}
use Rattle.go_exprs_rules.specs.ShiftExamples.{ShiftExamples}

pub shift_examples_hold : ShiftExamples
unfolding sooner answers is_assignable is_digit_of letter_base encode_utf8
shift_examples_hold = record {
  constant_shift = refl;
  open_shift = refl;
  open_rune = refl;
  rune_shift = refl;
  typed_shift = refl;
  negative_count = refl;
  typed_negative_count = refl;
  open_count = refl;
  text_count = refl;
  no_overflow = refl;
  zero_far = refl;
  shift_too_wide = refl;
  negative_shifted = refl;
  sum_with_open_shift = refl;
  shift_takes_type = refl;
  delayed_range = refl;
  shifts_compared = refl;
  untyped_rune_sum = refl;
}
