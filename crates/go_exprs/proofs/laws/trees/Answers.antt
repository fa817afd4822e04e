use Rattle.go_exprs.proofs.Examples.{trees_hold}
use Rattle.go_exprs.proofs.laws.trees.Goals as goal

pub returns : goal.returns
returns c = trees_hold
