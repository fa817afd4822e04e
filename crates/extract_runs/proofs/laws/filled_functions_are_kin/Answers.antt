use Rattle.extract_runs.proofs.Extractions.{filled_functions}
use Rattle.extract_runs.proofs.laws.filled_functions_are_kin.Goals as goal

pub returns : goal.returns
returns c = filled_functions
