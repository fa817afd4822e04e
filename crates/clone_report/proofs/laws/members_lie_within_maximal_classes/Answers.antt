use Rattle.clone_report.proofs.Within.{within}
use Rattle.clone_report.proofs.laws.members_lie_within_maximal_classes.Goals as goal

pub returns : goal.returns
returns c = λ classes class w h k. within classes class w h k
