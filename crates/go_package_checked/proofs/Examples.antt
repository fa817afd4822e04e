-- The worked examples compute.
use Rattle.std.proofs.Common.{refl}
use Rattle.std.specs.Char.{encode_utf8}
use Rattle.std.specs.Str.{chars}
use Rattle.go_tokens.specs.Lexing.{span}
use Rattle.go_tokens.specs.Literals.{is_digit_of, letter_base}
use Rattle.go_tree.specs.Predeclared.{known_names, unknown_names}
use Rattle.go_types_relations.specs.Questions.{answers}
use Rattle.go_types_relations.specs.Tests.{is_assignable}
use Rattle.go_exprs_rules.specs.Faults.{sooner}
use Rattle.go_package_checked.specs.Examples.{Examples}

pub worked : Examples
unfolding sooner answers is_assignable is_digit_of letter_base encode_utf8 chars span known_names unknown_names
worked = record { two = refl; three = refl; refused = refl }
