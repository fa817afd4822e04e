use Rattle.go_meaning.proofs.Bound.{bound_does_not_show}
use Rattle.go_meaning.proofs.laws.greater_bounds_do_not_show.Goals as goal

pub returns : goal.returns
returns c = bound_does_not_show
