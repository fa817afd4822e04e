-- The examples compute.
use Rattle.std.proofs.Common.{refl}
use Rattle.std.specs.Char.{encode_utf8}
use Rattle.go_tokens.specs.Literals.{is_digit_of, letter_base}
use Rattle.go_types_relations.specs.Questions.{answers}
use Rattle.go_types_relations.specs.Tests.{is_assignable}
use Rattle.go_exprs_rules.specs.Faults.{sooner}
use Rattle.go_exprs_rules.specs.ComparisonExamples.{ComparisonExamples}

pub comparison_examples_hold : ComparisonExamples
unfolding sooner answers is_assignable is_digit_of letter_base encode_utf8
comparison_examples_hold = record {
  compared = refl;
  constants_compared = refl;
  slice_and_nil = refl;
  function_and_nil = refl;
  nil_takes_slice = refl;
  nil_takes_declared = refl;
  slices_compared = refl;
  nil_and_nil = refl;
  nil_ordered = refl;
  booleans_ordered = refl;
  arrays_compared = refl;
  functions_compared = refl;
  number_and_text = refl;
  untyped_kinds = refl;
  compared_range = refl;
  named_and_literal = refl;
}
