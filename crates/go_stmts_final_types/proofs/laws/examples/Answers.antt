use Rattle.go_stmts_final_types.proofs.Examples.{worked}
use Rattle.go_stmts_final_types.proofs.laws.examples.Goals as goal

pub returns : goal.returns
returns c = worked
