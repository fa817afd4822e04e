use Rattle.go_scopes_bodies.proofs.Carried.{events_carried}
use Rattle.go_scopes_bodies.proofs.laws.carried_trees_tell_the_same.Goals as goal

pub returns : goal.returns
returns c = events_carried
