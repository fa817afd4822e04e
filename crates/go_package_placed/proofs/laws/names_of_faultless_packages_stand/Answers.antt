use Rattle.go_package_placed.proofs.Standing.{names_stand}
use Rattle.go_package_placed.proofs.laws.names_of_faultless_packages_stand.Goals as goal

pub returns : goal.returns
returns c ss f found = names_stand ss f (c.faultless_packages_are_resolved.ensures ss f) found
