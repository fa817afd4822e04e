use Rattle.extract_texts.proofs.Examples.{examples}
use Rattle.extract_texts.proofs.laws.examples.Goals as goal

pub returns : goal.returns
returns c = examples
