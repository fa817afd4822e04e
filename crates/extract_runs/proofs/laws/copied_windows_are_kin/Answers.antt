use Rattle.extract_runs.proofs.Extractions.{copied_kin}
use Rattle.extract_runs.proofs.laws.copied_windows_are_kin.Goals as goal

pub returns : goal.returns
returns c = copied_kin
