use Rattle.std.proofs.Common.{drop}
use Rattle.go_needs.specs.Levels.{KnowsNearest}
use Rattle.go_needs.proofs.nearest.nearest.Given as goal

abbrev pub invariant-loop-number : goal.invariant-loop-number
invariant-loop-number l = KnowsNearest l.nearest l.levels (drop l.number l.calls)
