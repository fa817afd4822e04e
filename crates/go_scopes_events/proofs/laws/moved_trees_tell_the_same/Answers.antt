use Rattle.go_scopes_events.proofs.Moved.{events_moved}
use Rattle.go_scopes_events.proofs.laws.moved_trees_tell_the_same.Goals as goal

pub returns : goal.returns
returns c = events_moved
