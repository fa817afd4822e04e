use Rattle.std.proofs.Common.{◌≡◌, ◌++◌, map, drop}
use Rattle.param_choose.specs.Handed.{handed_parameter, hole_shown}
use Rattle.param_choose.specs.Plans.{param_view}
use Rattle.param_choose.proofs.choose.push_holes.Given as goal

abbrev pub invariant-loop-hole : goal.invariant-loop-hole
invariant-loop-hole l = map param_view l.fn.out.items ++ map handed_parameter (map hole_shown l.holes) ≡ map param_view l.out.items ++ map handed_parameter (map hole_shown (drop l.hole-index l.holes))
