use Rattle.std.proofs.Common.{◌≡◌, ◌++◌, drop, map}
use Rattle.go_needs.specs.Ranks.{rank_by}
use Rattle.go_needs.proofs.ranked.object_ranks.Given as goal

abbrev pub invariant-loop-x : goal.invariant-loop-x
invariant-loop-x l = l.all.items ++ map (rank_by l.ranks) (drop l.x-index l.declaring) ≡ map (rank_by l.ranks) l.declaring
