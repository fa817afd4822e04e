use Rattle.std.proofs.Common.{◌≡◌, ◌++◌, drop}
use Rattle.go_package_rounds.specs.Held.{standings_of}
use Rattle.go_package_rounds.proofs.standing.all_standing.Given as goal

abbrev pub invariant-loop-number : goal.invariant-loop-number
invariant-loop-number l = l.standings.items ++ standings_of (drop l.number l.all) (drop l.number l.passing) ≡ standings_of l.all l.passing
