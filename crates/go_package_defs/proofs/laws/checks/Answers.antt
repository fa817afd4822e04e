use Rattle.go_package_defs.proofs.Checks.{checks_hold}
use Rattle.go_package_defs.proofs.laws.checks.Goals as goal

pub returns : goal.returns
returns c = checks_hold
