-- The examples compute.
use Rattle.std.proofs.Common.{refl}
use Rattle.std.specs.Char.{encode_utf8}
use Rattle.go_tokens.specs.Literals.{is_digit_of, letter_base}
use Rattle.go_types_relations.specs.Questions.{answers}
use Rattle.go_types_relations.specs.Tests.{is_assignable}
use Rattle.go_exprs_rules.specs.Faults.{sooner}
use Rattle.go_stmts_defs.specs.BodyExamples.{BodyExamples}
use Rattle.go_stmts_defs.specs.BranchExamples.{BranchExamples}
use Rattle.go_stmts_defs.specs.Examples.{AssignmentExamples, DeclarationExamples, StatementExamples}

pub assignments_hold : AssignmentExamples
unfolding sooner answers is_assignable is_digit_of letter_base encode_utf8
assignments_hold = record {
  wide_operand = refl;
  wide_second = refl;
  call_among_values = refl;
  results = refl;
  other_results = refl;
  constant_target = refl;
  type_target = refl;
  nil_dropped = refl;
  element = refl;
  stepped = refl;
  constant_stepped = refl;
  text_stepped = refl;
  wide_added = refl;
  divided_by_zero = refl;
}

pub declarations_hold : DeclarationExamples
unfolding sooner answers is_assignable is_digit_of letter_base encode_utf8
declarations_hold = record {
  defined = refl;
  reused = refl;
  wide_for_reused = refl;
  nil_defined = refl;
  too_few = refl;
  wide_variable = refl;
  rune_variable = refl;
  counted = refl;
  repeated_too_wide = refl;
  not_constant = refl;
  recursive_type = refl;
  blank_type = refl;
  late_limit = refl;
}

pub statements_hold : StatementExamples
unfolding sooner answers is_assignable is_digit_of letter_base encode_utf8
statements_hold = record {
  value_alone = refl;
  call_alone = refl;
  length_alone = refl;
  no_condition = refl;
  initialized = refl;
  nil_tag = refl;
  other_case = refl;
  compared_slices = refl;
  no_tag = refl;
  range_of_rune = refl;
  second_of_rune = refl;
  second_number = refl;
  two_numbers = refl;
  number_for_target = refl;
  wide_for_target = refl;
  number_for_text = refl;
  other_number = refl;
  shift_for_target = refl;
  shift_for_other = refl;
  wide_number = refl;
  range_of_text = refl;
  range_to_text = refl;
  value_returned = refl;
  results_returned = refl;
  parameter_returned = refl;
  no_return = refl;
  endless = refl;
  left_loop = refl;
}

pub bodies_hold : BodyExamples
unfolding sooner answers is_assignable is_digit_of letter_base encode_utf8
bodies_hold = record {
  locals = refl;
  tiles = refl;
  whole = refl;
  variable = refl;
  constant = refl;
  number_of_target = refl;
  rune_of_name = refl;
  number_alone = refl;
  signature = refl;
  parameters = refl;
  sorts = refl;
  tokens = refl;
}

pub branches_hold : BranchExamples
unfolding sooner answers is_assignable is_digit_of letter_base encode_utf8
branches_hold = record {
  loop_condition = refl;
  late_loop = refl;
  late_condition = refl;
  initialized_tag = refl;
  late_tag_missing = refl;
  numbers = refl;
  no_range = refl;
  constant_of_range = refl;
  both_branches = refl;
  falling = refl;
  no_default = refl;
  panicking = refl;
  results_declared = refl;
  without_value = refl;
  nil_variable = refl;
  other_constant = refl;
  one_constant_short = refl;
  results_dropped = refl;
  shifted_by_text = refl;
}
