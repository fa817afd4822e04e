use Rattle.extract_names_holes.proofs.Runs.{in_run}
use Rattle.extract_names_holes.proofs.laws.holes_are_in_runs.Goals as goal

pub returns : goal.returns
returns c = in_run
