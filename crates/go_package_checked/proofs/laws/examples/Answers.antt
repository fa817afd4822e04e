use Rattle.go_package_checked.proofs.Examples.{worked}
use Rattle.go_package_checked.proofs.laws.examples.Goals as goal

pub returns : goal.returns
returns c = worked
