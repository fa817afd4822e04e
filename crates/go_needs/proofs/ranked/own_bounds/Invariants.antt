use Rattle.std.proofs.Common.{◌≡◌, ◌++◌, drop, map}
use Rattle.go_needs.specs.Ranks.{own_bound}
use Rattle.go_needs.proofs.ranked.own_bounds.Given as goal

abbrev pub invariant-loop-rank : goal.invariant-loop-rank
invariant-loop-rank l = l.bounds.items ++ map own_bound (drop l.rank-index l.ranks) ≡ map own_bound l.ranks
