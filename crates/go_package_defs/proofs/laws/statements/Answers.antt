use Rattle.go_package_defs.proofs.Statements.{statements_hold}
use Rattle.go_package_defs.proofs.laws.statements.Goals as goal

pub returns : goal.returns
returns c = statements_hold
