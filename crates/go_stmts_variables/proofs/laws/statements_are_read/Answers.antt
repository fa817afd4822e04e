use Rattle.go_exprs_variables.proofs.Public.{expressions_are_typed}
use Rattle.go_stmts_variables.proofs.Law.{statements_read}
use Rattle.go_stmts_variables.proofs.laws.statements_are_read.Goals as goal

pub returns : goal.returns
returns c w s t h x shape st proper dec good fits tags steady = statements_read expressions_are_typed w s t h x shape st proper dec good fits tags steady
