use Rattle.go_stmts_defs.proofs.Examples.{bodies_hold}
use Rattle.go_stmts_defs.proofs.laws.bodies.Goals as goal

pub returns : goal.returns
returns c = bodies_hold
