use Rattle.clone_classes.proofs.Examples.{all}
use Rattle.clone_classes.proofs.laws.examples.Goals as goal

pub returns : goal.returns
returns c = all
