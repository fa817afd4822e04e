use Rattle.std.proofs.Common.{ℕ}
use Rattle.go_package_rounds.specs.World.{KnownStandings}
use Rattle.go_package_order.proofs.settle.hide_unless.Given as goal

abbrev pub invariant-loop-number : goal.invariant-loop-number
invariant-loop-number l = (n : ℕ) → KnownStandings n l.initial.standings.items → KnownStandings n l.standings.items
