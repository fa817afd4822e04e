use Rattle.std.proofs.Common.{◌≡◌, ◌++◌, drop}
use Rattle.go_package_defs.specs.Checked.{local_origins}
use Rattle.go_package.proofs.origins.push_locals.Given as goal

abbrev pub invariant-loop-declared : goal.invariant-loop-declared
invariant-loop-declared l = l.origins.items ++ local_origins l.func l.local (drop l.declared-index l.locals) ≡ l.initial.origins.items ++ local_origins l.func 0 l.locals
