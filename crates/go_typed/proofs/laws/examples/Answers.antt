use Rattle.go_typed.proofs.Examples.{examples_hold}
use Rattle.go_typed.proofs.laws.examples.Goals as goal

pub returns : goal.returns
returns c = examples_hold
