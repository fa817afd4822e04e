use Rattle.extract_files.proofs.Enclosed.{runs_are_enclosed}
use Rattle.extract_files.proofs.laws.runs_are_enclosed.Goals as goal

pub returns : goal.returns
returns c = runs_are_enclosed
