use Rattle.go_scopes_events.proofs.Locals.{locals_good}
use Rattle.go_scopes_events.proofs.laws.locals_are_in_order.Goals as goal

pub returns : goal.returns
returns c = locals_good
