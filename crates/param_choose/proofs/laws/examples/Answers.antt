use Rattle.param_choose.proofs.Examples.{examples}
use Rattle.param_choose.proofs.laws.examples.Goals as goal

pub returns : goal.returns
returns c = examples
