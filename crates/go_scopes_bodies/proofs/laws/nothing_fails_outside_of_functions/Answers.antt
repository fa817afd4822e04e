use Rattle.go_scopes_bodies.proofs.Nothing.{nothing_outside}
use Rattle.go_scopes_bodies.proofs.laws.nothing_fails_outside_of_functions.Goals as goal

pub returns : goal.returns
returns c = nothing_outside
