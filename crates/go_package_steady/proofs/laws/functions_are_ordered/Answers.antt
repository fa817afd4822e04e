use Rattle.go_package_steady.proofs.Packages.{functions_ordered}
use Rattle.go_package_steady.proofs.laws.functions_are_ordered.Goals as goal

pub returns : goal.returns
returns start p a rights number d g b declares below = functions_ordered p a rights number d g b declares below
