use Rattle.go_package_defs.proofs.Examples.{single_declarations_hold}
use Rattle.go_package_defs.proofs.laws.single_declarations.Goals as goal

pub returns : goal.returns
returns c = single_declarations_hold
