-- The examples compute.
use Rattle.std.proofs.Common.{refl}
use Rattle.std.specs.Char.{encode_utf8}
use Rattle.std.specs.Str.{chars}
use Rattle.go_tokens.specs.Lexing.{span}
use Rattle.go_tokens.specs.Literals.{is_digit_of, letter_base}
use Rattle.go_tree.specs.Predeclared.{known_names, unknown_names}
use Rattle.go_types_relations.specs.Questions.{answers}
use Rattle.go_types_relations.specs.Tests.{is_assignable}
use Rattle.go_exprs_rules.specs.Faults.{sooner}
use Rattle.go_package_defs.specs.DeclarationExamples.{SingleExamples, NeededExamples, GroupExamples}

pub single_declarations_hold : SingleExamples
unfolding sooner answers is_assignable is_digit_of letter_base encode_utf8 chars span known_names unknown_names
single_declarations_hold = record {
  variable = refl;
  value_as_type = refl;
  recursive_slice = refl;
  nil_variable = refl;
  nil_in_parentheses = refl;
  too_few_values = refl;
  assigned_first = refl;
  length_no_integer = refl;
  divided_length = refl;
  too_many_scalars = refl;
  shifted_wide = refl;
  main_is_variable = refl;
  main_is_constant = refl;
  call_as_constant = refl;
  index_of_text = refl;
}

pub needed_declarations_hold : NeededExamples
unfolding sooner answers is_assignable is_digit_of letter_base encode_utf8 chars span known_names unknown_names
needed_declarations_hold = record {
  needs_faulty = refl;
  needs_later_faulty = refl;
  own_fault_and_needed = refl;
  two_specifications = refl;
  counted_before_needs = refl;
  variable_by_name = refl;
  faulty_element = refl;
  sum_of_faulty = refl;
  scalars_of_two = refl;
  types_in_two_files = refl;
  second_file_first = refl;
  needed_in_other_file = refl;
  loose_limit = refl;
  length_of_variable = refl;
  nil_beside_divisor = refl;
  type_of_faulty = refl;
  value_unneeded = refl;
  out_of_range_twice = refl;
  value_of_faulty_type = refl;
  unjudged_specification = refl;
  loose_limit_of_faulty = refl;
  main_before_others = refl;
}

pub groups_hold : GroupExamples
unfolding sooner answers is_assignable is_digit_of letter_base encode_utf8 chars span known_names unknown_names
groups_hold = record {
  repeated_too_wide = refl;
  repeated_count = refl;
  repeated_divisor = refl;
  group_divisor = refl;
  counted = refl;
  typed_group = refl;
}
