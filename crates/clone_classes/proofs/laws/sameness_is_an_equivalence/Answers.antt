use Rattle.clone_classes.proofs.Sameness.{within}
use Rattle.clone_classes.proofs.laws.sameness_is_an_equivalence.Goals as goal

pub returns : goal.returns
returns c = λ identical q fields bodies. within identical q fields bodies
