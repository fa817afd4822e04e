use Rattle.go_exprs.proofs.Examples.{refusals_hold}
use Rattle.go_exprs.proofs.laws.refusals.Goals as goal

pub returns : goal.returns
returns c = refusals_hold
