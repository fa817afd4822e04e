use Rattle.extract_names_derived.proofs.Examples.{examples}
use Rattle.extract_names_derived.proofs.laws.examples.Goals as goal

pub returns : goal.returns
returns c = examples
