use Rattle.go_scopes_events.proofs.Scoped.{file_scoped}
use Rattle.go_scopes_events.proofs.laws.scopes_stand_in_trees.Goals as goal

pub returns : goal.returns
returns c = file_scoped
