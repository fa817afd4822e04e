use Rattle.std.proofs.Common.{◌≡◌, ◌++◌, drop}
use Rattle.param_choose.specs.Marks.{either_each, either_from}
use Rattle.param_choose.proofs.differ.either_each.Given as goal

abbrev pub invariant-loop-mark : goal.invariant-loop-mark
invariant-loop-mark l = (either_each l.left l.right ≡ l.row.items ++ either_from (drop l.mark-index l.left) l.index l.right) × (l.index ≡ l.mark-index)
