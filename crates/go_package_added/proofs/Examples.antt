-- The worked examples compute.
use Rattle.std.proofs.Common.{true, false, [], ◌∷◌, refl}
use Rattle.std.specs.Char.{encode_utf8}
use Rattle.std.specs.Str.{chars}
use Rattle.go_tokens.specs.Lexing.{span}
use Rattle.go_tokens.specs.Literals.{is_digit_of, letter_base}
use Rattle.go_tree.specs.Predeclared.{known_names, unknown_names}
use Rattle.go_types_relations.specs.Questions.{answers}
use Rattle.go_types_relations.specs.Tests.{is_assignable}
use Rattle.go_exprs_rules.specs.Faults.{sooner}
use Rattle.go_package_defs.specs.Sentences.{sources_from}
use Rattle.go_package_defs.specs.Sources.{Package}
use Rattle.go_package_added.specs.Appended.{IsClosed, package_in}
use Rattle.go_package_added.specs.Examples.{ClosedExamples, Examples, recursive}

pub worked : Examples
unfolding sooner answers is_assignable is_digit_of letter_base encode_utf8 chars span known_names unknown_names
worked = record { one = refl; one_more = refl; two = refl; two_more = refl }

abbrev recursive_package : Package
recursive_package = package_in (sources_from 0 (recursive ∷ []))

type_closed : IsClosed recursive_package 0 4
unfolding is_digit_of letter_base encode_utf8 chars span known_names unknown_names
type_closed c true = refl
type_closed c false = refl

function_closed : IsClosed recursive_package 0 10
unfolding is_digit_of letter_base encode_utf8 chars span known_names unknown_names
function_closed c true = refl
function_closed c false = refl

pub closed : ClosedExamples
unfolding is_digit_of letter_base encode_utf8 chars span known_names unknown_names
closed = record { recursive = (type_closed, (function_closed, tt)) }
