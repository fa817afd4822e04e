use Rattle.go_types.proofs.Examples.{all}
use Rattle.go_types.proofs.laws.examples.Goals as goal

pub returns : goal.returns
returns c = all
