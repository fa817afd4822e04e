use Rattle.extract_call.proofs.Examples.{worked}
use Rattle.extract_call.proofs.laws.examples.Goals as goal

pub returns : goal.returns
returns c = worked
