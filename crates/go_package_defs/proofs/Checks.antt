-- The examples of whole packages compute.
use Rattle.std.proofs.Common.{refl}
use Rattle.std.specs.Char.{encode_utf8}
use Rattle.std.specs.Str.{chars}
use Rattle.go_tokens.specs.Lexing.{span}
use Rattle.go_tokens.specs.Literals.{is_digit_of, letter_base}
use Rattle.go_tree.specs.Predeclared.{known_names, unknown_names}
use Rattle.go_types_relations.specs.Questions.{answers}
use Rattle.go_types_relations.specs.Tests.{is_assignable}
use Rattle.go_exprs_rules.specs.Faults.{sooner}
use Rattle.go_package_defs.specs.CheckExamples.{CheckExamples, TypingExamples}

pub checks_hold : CheckExamples
unfolding sooner answers is_assignable is_digit_of letter_base encode_utf8 chars span known_names unknown_names
checks_hold = record {
  not_assignable = refl;
  out_of_range = refl;
  good_body = refl;
  declarations_first = refl;
  names_first = refl;
  clauses_first = refl;
  first_function = refl;
  second_file = refl;
  main_with_result = refl;
  main_good = refl;
  constant_of_package = refl;
  cycle = refl;
  local_type = refl;
  variable_across_functions = refl;
}

pub typings_hold : TypingExamples
unfolding sooner answers is_assignable is_digit_of letter_base encode_utf8 chars span known_names unknown_names
typings_hold = record { rights = refl; origins_told = refl; signatures = refl; locals = refl }
