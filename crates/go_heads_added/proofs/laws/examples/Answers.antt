use Rattle.go_heads_added.proofs.Examples.{examples}
use Rattle.go_heads_added.proofs.laws.examples.Goals as goal

pub returns : goal.returns
returns c = examples
