use Rattle.go_scopes_cycles.proofs.Enough.{any_declared}
use Rattle.go_scopes_cycles.proofs.laws.declarations_bound_rounds.Goals as goal

pub returns : goal.returns
returns c = any_declared
