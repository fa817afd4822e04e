use Rattle.go_exprs_variables.proofs.Public.{expressions_are_typed}
use Rattle.go_stmts_variables.proofs.Asked.{asked_is_met}
use Rattle.go_stmts_variables.proofs.laws.asked_is_met.Goals as goal

pub returns : goal.returns
returns c = asked_is_met expressions_are_typed
