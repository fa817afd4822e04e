use Rattle.go_scopes_bodies.proofs.Listed.{lists_tell}
use Rattle.go_scopes_bodies.proofs.laws.lists_tell_each_statement.Goals as goal

pub returns : goal.returns
returns c = lists_tell
