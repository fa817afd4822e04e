use Rattle.go_package_defs.proofs.Kept.{stays}
use Rattle.go_package_defs.proofs.laws.checked_packages_stay_so.Goals as goal

pub returns : goal.returns
returns c = stays c.packages_under_other_numbers.ensures.both
