-- The examples compute.
use Rattle.std.proofs.Common.{refl}
use Rattle.std.specs.Char.{encode_utf8}
use Rattle.go_tokens.specs.Literals.{is_digit_of, letter_base}
use Rattle.go_types_relations.specs.Questions.{answers}
use Rattle.go_types_relations.specs.Tests.{is_assignable}
use Rattle.go_exprs_rules.specs.Faults.{sooner}
use Rattle.go_exprs.specs.Examples.{TreeExamples, RefusalExamples}

pub trees_hold : TreeExamples
unfolding sooner answers is_assignable is_digit_of letter_base encode_utf8
trees_hold = record { wanted_shift = refl; shift_by_default = refl; least_value = refl; rune_and_integer = refl; elided_type = refl; several_results = refl }

pub refusals_hold : RefusalExamples
unfolding sooner answers is_assignable is_digit_of letter_base encode_utf8
refusals_hold = record {
  wide_for_type = refl;
  shift_for_text = refl;
  other_type = refl;
  wide_for_default = refl;
  wide_index = refl;
  negative_index = refl;
  text_index = refl;
  negative_count = refl;
  open_count = refl;
}
