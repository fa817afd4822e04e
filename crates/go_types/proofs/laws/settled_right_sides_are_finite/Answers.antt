use Rattle.go_types.proofs.Settling.{settled_finite}
use Rattle.go_types.proofs.laws.settled_right_sides_are_finite.Goals as goal

pub returns : goal.returns
returns c t named right ok o s = settled_finite t ok named right o s
