use Rattle.extract_names_derived.proofs.Placing.{run_placed}
use Rattle.extract_names_derived.proofs.laws.copied_runs_are_placed.Goals as goal

pub returns : goal.returns
returns c = run_placed
