use Rattle.std.proofs.Common.{length}
use Rattle.go_package_settled.specs.Closure.{needing}
use Rattle.go_package_settled.proofs.Declared.{are_ordered}
use Rattle.go_package_settled.proofs.laws.declared_packages_settle.Goals as goal

pub returns : goal.returns
returns c p os declared a = c.ordered_packages_settle.ensures p os (needing p os declared (length os)) (are_ordered p os declared a)
