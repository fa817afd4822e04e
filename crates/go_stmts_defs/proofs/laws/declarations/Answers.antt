use Rattle.go_stmts_defs.proofs.Examples.{declarations_hold}
use Rattle.go_stmts_defs.proofs.laws.declarations.Goals as goal

pub returns : goal.returns
returns c = declarations_hold
