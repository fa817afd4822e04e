use Rattle.clone_script.proofs.Outcomes.{spelled_once}
use Rattle.clone_script.proofs.laws.spelled_once.Goals as goal

pub returns : goal.returns
returns c = spelled_once
