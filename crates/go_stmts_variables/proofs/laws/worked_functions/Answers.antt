use Rattle.go_stmts_variables.proofs.WorkedFunctions.{worked_functions}
use Rattle.go_stmts_variables.proofs.laws.worked_functions.Goals as goal

pub returns : goal.returns
returns c = worked_functions
