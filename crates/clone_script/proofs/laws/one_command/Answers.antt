use Rattle.clone_script.proofs.Outcomes.{one_command}
use Rattle.clone_script.proofs.laws.one_command.Goals as goal

pub returns : goal.returns
returns c = one_command
