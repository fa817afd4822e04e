-- The worked lists compute.
use Rattle.std.proofs.Common.{refl}
use Rattle.std.specs.Char.{encode_utf8}
use Rattle.go_tokens.specs.Literals.{is_digit_of, letter_base}
use Rattle.go_types_relations.specs.Questions.{answers}
use Rattle.go_types_relations.specs.Tests.{is_assignable}
use Rattle.go_exprs_rules.specs.Faults.{sooner}
use Rattle.go_stmts_elsewhere.specs.Worked.{WorkedGaps}

pub worked : WorkedGaps
unfolding sooner answers is_assignable is_digit_of letter_base encode_utf8
worked = record {
  replaced = record { before = refl; read = refl; found = refl; frames = (refl, refl) };
  no_rule_fails = refl;
  clause = record { before = refl; read = refl; found = refl; frames = (refl, refl) };
  clause_faultless = refl;
  twice_replaced = record { read = refl; faultless = refl };
}
