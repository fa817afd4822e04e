use Rattle.go_scopes_events.proofs.Outer.{file_behind}
use Rattle.go_scopes_events.proofs.laws.locals_stand_in_functions.Goals as goal

pub returns : goal.returns
returns c = file_behind
