use Rattle.go_scopes_bodies.proofs.Counted.{statements_by_functions}
use Rattle.go_scopes_bodies.proofs.laws.statements_are_counted_by_functions.Goals as goal

pub returns : goal.returns
returns c = statements_by_functions
