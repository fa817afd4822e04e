use Rattle.escape_check.proofs.Examples.{examples}
use Rattle.escape_check.proofs.laws.examples.Goals as goal

pub returns : goal.returns
returns c = examples
