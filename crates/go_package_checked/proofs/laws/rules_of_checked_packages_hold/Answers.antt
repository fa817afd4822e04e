use Rattle.go_package_checked.proofs.Stages.{stages}
use Rattle.go_package_checked.proofs.Held.{rules_hold}
use Rattle.go_package_checked.proofs.laws.rules_of_checked_packages_hold.Goals as goal

pub returns : goal.returns
returns c = λ ss t h. rules_hold ss t.environment (stages ss t h).answer
