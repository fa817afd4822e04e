use Rattle.extract_trees.proofs.Fixed.{all_fixed}
use Rattle.extract_trees.proofs.laws.holes_alone_agree.Goals as goal

pub returns : goal.returns
returns c = all_fixed
