use Rattle.go_exprs_variables.proofs.WorkedExpressions.{worked_expressions_hold}
use Rattle.go_exprs_variables.proofs.laws.worked_expressions.Goals as goal

pub returns : goal.returns
returns c = worked_expressions_hold
