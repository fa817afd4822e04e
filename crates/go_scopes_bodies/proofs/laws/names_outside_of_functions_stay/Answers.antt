use Rattle.go_scopes_bodies.proofs.Stays.{outer_stays}
use Rattle.go_scopes_bodies.proofs.laws.names_outside_of_functions_stay.Goals as goal

pub returns : goal.returns
returns c = outer_stays
