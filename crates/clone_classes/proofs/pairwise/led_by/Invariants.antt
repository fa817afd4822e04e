use Rattle.std.proofs.Common.{◌≡◌, ◌∷◌, ◌++◌, filter, drop}
use Rattle.clone_window.specs.Bodies.{same_in}
use Rattle.clone_classes.proofs.pairwise.led_by.Given as goal

abbrev pub invariant-loop-other : goal.invariant-loop-other
invariant-loop-other o l =
    l.window ∷ filter (same_in l.checked l.window) l.others
    ≡ l.members.items ++ filter (same_in l.checked l.window) (drop l.other-index l.others)
