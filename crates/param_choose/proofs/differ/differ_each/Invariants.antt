use Rattle.std.proofs.Common.{◌≡◌, ◌++◌, drop}
use Rattle.param_choose.specs.Marks.{differ_each}
use Rattle.param_choose.specs.Shown.{holes_view, values_view}
use Rattle.param_choose.proofs.differ.differ_each.Given as goal

abbrev pub invariant-loop-hole : goal.invariant-loop-hole
invariant-loop-hole l =
    (differ_each (values_view l.holes) 0 (holes_view l.others) ≡ l.row.items ++ differ_each (values_view (drop l.hole-index l.holes)) l.index (holes_view l.others))
    × (l.index ≡ l.hole-index)
