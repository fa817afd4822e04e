use Rattle.std.proofs.Common.{◌≡◌, drop}
use Rattle.std.specs.List.{list_any}
use Rattle.clone_window.specs.Bodies.{same_in}
use Rattle.clone_classes.proofs.pairwise.is_among.Given as goal

abbrev pub invariant-loop-other : goal.invariant-loop-other
invariant-loop-other o l =
    list_any (same_in l.checked l.window) l.others
    ≡ list_any (same_in l.checked l.window) (drop l.other-index l.others)
