use Rattle.extract_names_derived.proofs.CopyTelling.{copy_told}
use Rattle.extract_names_derived.proofs.laws.copied_runs_tell_in_bodies.Goals as goal

pub returns : goal.returns
returns c = copy_told
