use Rattle.go_package_defs.proofs.Examples.{groups_hold}
use Rattle.go_package_defs.proofs.laws.groups.Goals as goal

pub returns : goal.returns
returns c = groups_hold
