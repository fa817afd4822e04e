use Rattle.std.proofs.Common.{◌≡◌, ◌++◌, drop}
use Rattle.go_package_defs.specs.Checked.{package_origins}
use Rattle.go_package.proofs.origins.push_package.Given as goal

abbrev pub invariant-loop-object : goal.invariant-loop-object
invariant-loop-object l = l.origins.items ++ package_origins l.number (drop l.object-index l.objects) ≡ l.initial.origins.items ++ package_origins 0 l.objects
