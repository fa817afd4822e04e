use Rattle.extract_trees.proofs.Examples.{examples}
use Rattle.extract_trees.proofs.laws.examples.Goals as goal

pub returns : goal.returns
returns c = examples
