use Rattle.clone_script.proofs.Scripts.{some_outcome, one_outcome}
use Rattle.clone_script.proofs.laws.one_outcome.Goals as goal

pub returns : goal.returns
returns c = record { some = some_outcome; one = one_outcome }
