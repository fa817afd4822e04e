use Rattle.std.proofs.Common.{◌≡◌, false, length, replicate, drop}
use Rattle.param_choose.specs.Members.{members_in}
use Rattle.param_choose.specs.Marks.{differing}
use Rattle.param_choose.specs.Shown.{values_view}
use Rattle.param_choose.proofs.differ.differing.Given as goal

abbrev pub invariant-loop-window : goal.invariant-loop-window
invariant-loop-window l =
    differing (values_view l.holes) (replicate (length l.holes) false) (members_in l.checked l.windows)
    ≡ differing (values_view l.holes) l.found.items (members_in l.checked (drop l.window-index l.windows))
