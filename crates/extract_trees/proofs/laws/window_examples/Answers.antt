use Rattle.extract_trees.proofs.WindowExamples.{window_examples}
use Rattle.extract_trees.proofs.laws.window_examples.Goals as goal

pub returns : goal.returns
returns c = window_examples
