use Rattle.go_package_scopes.proofs.Examples.{worked}
use Rattle.go_package_scopes.proofs.laws.examples.Goals as goal

pub returns : goal.returns
returns c = worked
