use Rattle.go_meaning.proofs.Examples.{worked}
use Rattle.go_meaning.proofs.laws.examples.Goals as goal

pub returns : goal.returns
returns c = worked
