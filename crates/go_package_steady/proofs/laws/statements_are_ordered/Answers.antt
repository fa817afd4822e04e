use Rattle.go_package_steady.proofs.Rising.{statements_ordered}
use Rattle.go_package_steady.proofs.laws.statements_are_ordered.Goals as goal

pub returns : goal.returns
returns start c t k x inner shape rise = statements_ordered c t k x inner shape rise
