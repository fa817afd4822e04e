use Rattle.go_stmts.proofs.Known.{function_stays}
use Rattle.go_stmts.proofs.laws.functions_stay.Goals as goal

pub returns : goal.returns
returns c = function_stays
