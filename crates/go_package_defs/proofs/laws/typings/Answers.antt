use Rattle.go_package_defs.proofs.Checks.{typings_hold}
use Rattle.go_package_defs.proofs.laws.typings.Goals as goal

pub returns : goal.returns
returns c = typings_hold
