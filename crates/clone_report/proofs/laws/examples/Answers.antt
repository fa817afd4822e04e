use Rattle.clone_report.proofs.Examples.{all}
use Rattle.clone_report.proofs.laws.examples.Goals as goal

pub returns : goal.returns
returns c = all
