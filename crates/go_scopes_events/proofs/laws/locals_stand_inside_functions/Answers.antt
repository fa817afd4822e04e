use Rattle.go_scopes_events.proofs.Inside.{file_inside}
use Rattle.go_scopes_events.proofs.laws.locals_stand_inside_functions.Goals as goal

pub returns : goal.returns
returns c = file_inside
