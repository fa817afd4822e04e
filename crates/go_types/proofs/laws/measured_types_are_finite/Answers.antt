use Rattle.go_types.proofs.Containment.{measured_finite}
use Rattle.go_types.proofs.laws.measured_types_are_finite.Goals as goal

pub returns : goal.returns
returns c = measured_finite
