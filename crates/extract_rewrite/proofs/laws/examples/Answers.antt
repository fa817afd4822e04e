use Rattle.extract_rewrite.proofs.Examples.{examples}
use Rattle.extract_rewrite.proofs.laws.examples.Goals as goal

pub returns : goal.returns
returns c = examples
