use Rattle.go_exprs_variables.proofs.Public.{expressions_are_typed}
use Rattle.go_stmts_variables.proofs.Law.{bodies_read}
use Rattle.go_stmts_variables.proofs.laws.bodies_are_read.Goals as goal

pub returns : goal.returns
returns c w s t h x shape st proper dec good fits tags steady = bodies_read expressions_are_typed w s t h x shape st proper dec good fits tags steady
