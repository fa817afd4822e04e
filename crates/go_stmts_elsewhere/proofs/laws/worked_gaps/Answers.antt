use Rattle.go_stmts_elsewhere.proofs.Worked.{worked}
use Rattle.go_stmts_elsewhere.proofs.laws.worked_gaps.Goals as goal

pub returns : goal.returns
returns c = worked
