use Rattle.std.proofs.Common.{◌≡◌, ◌++◌, drop, map}
use Rattle.go_needs.specs.Bounds.{level_under}
use Rattle.go_needs.proofs.bounds.levels_under.Given as goal

abbrev pub invariant-loop-bound : goal.invariant-loop-bound
invariant-loop-bound l = l.levels.items ++ map (level_under l.top) (drop l.bound-index l.bounds) ≡ map (level_under l.top) l.bounds
