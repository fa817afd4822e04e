use Rattle.go_package_steady.proofs.Told.{types_told}
use Rattle.go_package_steady.proofs.laws.types_are_told.Goals as goal

pub returns : goal.returns
returns start c t = types_told c t
