use Rattle.go_stmts_defs.proofs.Examples.{statements_hold}
use Rattle.go_stmts_defs.proofs.laws.statements.Goals as goal

pub returns : goal.returns
returns c = statements_hold
