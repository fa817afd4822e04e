use Rattle.go_package_defs.proofs.Examples.{needed_declarations_hold}
use Rattle.go_package_defs.proofs.laws.needed_declarations.Goals as goal

pub returns : goal.returns
returns c = needed_declarations_hold
