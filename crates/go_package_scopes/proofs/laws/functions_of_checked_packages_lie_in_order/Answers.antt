use Rattle.go_package_scopes.proofs.LaidFunctions.{package_ordered}
use Rattle.go_package_scopes.proofs.laws.functions_of_checked_packages_lie_in_order.Goals as goal

pub returns : goal.returns
returns c p h = package_ordered p h
