-- The examples of statements compute.
use Rattle.std.proofs.Common.{refl}
use Rattle.std.specs.Char.{encode_utf8}
use Rattle.std.specs.Str.{chars}
use Rattle.go_tokens.specs.Lexing.{span}
use Rattle.go_tokens.specs.Literals.{is_digit_of, letter_base}
use Rattle.go_tree.specs.Predeclared.{known_names, unknown_names}
use Rattle.go_types_relations.specs.Questions.{answers}
use Rattle.go_types_relations.specs.Tests.{is_assignable}
use Rattle.go_exprs_rules.specs.Faults.{sooner}
use Rattle.go_package_defs.specs.StatementExamples.{StatementExamples}

pub statements_hold : StatementExamples
unfolding sooner answers is_assignable is_digit_of letter_base encode_utf8 chars span known_names unknown_names
statements_hold = record {
  wide_definition = refl;
  too_many_defined = refl;
  reused_in_loop = refl;
  ranged_text = refl;
  ranged_nil = refl;
  untagged_case = refl;
  empty_switch = refl;
  wide_tag = refl;
  nil_tag = refl;
  endless_loop = refl;
  loop_with_condition = refl;
  stepped_condition = refl;
  condition = refl;
  blank_added = refl;
  boolean_stepped = refl;
  shifted_by_text = refl;
  results_counted = refl;
  results_dropped = refl;
  results_of_blank = refl;
  nil_constant = refl;
  fallen_through = refl;
  last_not_ended = refl;
  one_branch = refl;
  functions_compared = refl;
  value_alone = refl;
}
