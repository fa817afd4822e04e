use Rattle.go_package_added.proofs.Examples.{closed, worked}
use Rattle.go_package_added.proofs.laws.examples.Goals as goal

pub returns : goal.returns
returns c = record { answers = worked; closed = closed }
