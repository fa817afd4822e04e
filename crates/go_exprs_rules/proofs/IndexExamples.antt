-- The examples compute.
use Rattle.std.proofs.Common.{refl}
use Rattle.std.specs.Char.{encode_utf8}
use Rattle.go_tokens.specs.Literals.{is_digit_of, letter_base}
use Rattle.go_types_relations.specs.Questions.{answers}
use Rattle.go_types_relations.specs.Tests.{is_assignable}
use Rattle.go_exprs_rules.specs.Faults.{sooner}
use Rattle.go_exprs_rules.specs.IndexExamples.{IndexExamples}

pub index_examples_hold : IndexExamples
unfolding sooner answers is_assignable is_digit_of letter_base encode_utf8
index_examples_hold = record {
  field = refl;
  no_field = refl;
  no_struct = refl;
  element = refl;
  byte_of_text = refl;
  byte_of_constant = refl;
  behind_constant = refl;
  behind_array = refl;
  last_of_array = refl;
  negative_index = refl;
  text_index = refl;
  wide_index = refl;
  open_index = refl;
  number_indexed = refl;
  far_in_slice = refl;
  rune_index = refl;
  part = refl;
  part_of_text = refl;
  part_of_constant = refl;
  disordered_bounds = refl;
  array_sliced = refl;
  bound_behind = refl;
  bound_at_end = refl;
  slice_keeps_name = refl;
}
