use Rattle.go_package_settled.proofs.Examples.{examples}
use Rattle.go_package_settled.proofs.laws.examples.Goals as goal

pub returns : goal.returns
returns c = examples
