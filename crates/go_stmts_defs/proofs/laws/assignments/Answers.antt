use Rattle.go_stmts_defs.proofs.Examples.{assignments_hold}
use Rattle.go_stmts_defs.proofs.laws.assignments.Goals as goal

pub returns : goal.returns
returns c = assignments_hold
