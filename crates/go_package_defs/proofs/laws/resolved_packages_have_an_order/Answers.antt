use Rattle.go_package_defs.proofs.Resolved.{ordered}
use Rattle.go_package_defs.proofs.laws.resolved_packages_have_an_order.Goals as goal

pub returns : goal.returns
returns c = ordered c.declarations_bound_rounds.ensures
