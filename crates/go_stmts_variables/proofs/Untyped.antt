-- The example of a tag without a type.
use Rattle.std.proofs.Common.{refl}
use Rattle.go_tokens.specs.Literals.{is_digit_of, letter_base}
use Rattle.go_types_relations.specs.Questions.{answers}
use Rattle.go_types_relations.specs.Tests.{is_assignable}
use Rattle.go_exprs_rules.specs.Faults.{sooner}
use Rattle.go_stmts_variables.specs.Untyped.{TagsNeedTypes}

pub tags_need_types : TagsNeedTypes
unfolding sooner answers is_assignable is_digit_of letter_base
tags_need_types = record { constants = refl; variable = refl }
