use Rattle.go_stmts_placed.proofs.Examples.{worked}
use Rattle.go_stmts_placed.proofs.laws.examples.Goals as goal

pub returns : goal.returns
returns c = worked
