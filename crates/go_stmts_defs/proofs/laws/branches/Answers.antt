use Rattle.go_stmts_defs.proofs.Examples.{branches_hold}
use Rattle.go_stmts_defs.proofs.laws.branches.Goals as goal

pub returns : goal.returns
returns c = branches_hold
