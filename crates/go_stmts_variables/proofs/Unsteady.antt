-- The example of a clause that declares the type of its tag.
use Rattle.std.proofs.Common.{refl}
use Rattle.go_tokens.specs.Literals.{is_digit_of, letter_base}
use Rattle.go_types_relations.specs.Questions.{answers}
use Rattle.go_types_relations.specs.Tests.{is_assignable}
use Rattle.go_exprs_rules.specs.Faults.{sooner}
use Rattle.go_stmts_variables.specs.Unsteady.{TagsNeedSteadyTypes}

pub tags_need_steady_types : TagsNeedSteadyTypes
unfolding sooner answers is_assignable is_digit_of letter_base
tags_need_steady_types = record { constants = refl; variable = refl }
