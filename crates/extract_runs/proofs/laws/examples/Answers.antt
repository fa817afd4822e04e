use Rattle.extract_runs.proofs.Examples.{worked}
use Rattle.extract_runs.proofs.laws.examples.Goals as goal

pub returns : goal.returns
returns c = worked
