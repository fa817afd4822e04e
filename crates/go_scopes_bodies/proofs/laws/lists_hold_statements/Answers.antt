use Rattle.go_scopes_bodies.proofs.Derived.{lists_hold}
use Rattle.go_scopes_bodies.proofs.laws.lists_hold_statements.Goals as goal

pub returns : goal.returns
returns c = lists_hold
