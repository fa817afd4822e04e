use Rattle.extract_runs.proofs.OneCopies.{one_copies}
use Rattle.extract_runs.proofs.laws.one_copies_are_same.Goals as goal

pub returns : goal.returns
returns c = one_copies
