use Rattle.std.proofs.Common.{◌≡◌, ◌++◌, drop, map}
use Rattle.go_package_rounds.specs.Held as held
use Rattle.go_package_rounds.proofs.held.all_told.Given as goal

abbrev pub invariant-loop-known : goal.invariant-loop-known
invariant-loop-known l = l.flags.items ++ map held.is_told (drop l.known-index l.all) ≡ map held.is_told l.all
