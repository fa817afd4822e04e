use Rattle.std.proofs.Common.{◌≡◌, ◌++◌, drop}
use Rattle.go_package_defs.specs.Checked.{function_origins, origins}
use Rattle.go_package.proofs.origins.origins.Given as goal

abbrev pub invariant-loop-number : goal.invariant-loop-number
invariant-loop-number l = l.origins.items ++ function_origins l.func (drop l.number l.uses.locals) ≡ origins l.uses
