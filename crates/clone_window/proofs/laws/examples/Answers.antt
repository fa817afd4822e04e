use Rattle.clone_window.proofs.Examples.{all}
use Rattle.clone_window.proofs.laws.examples.Goals as goal

pub returns : goal.returns
returns c = all
