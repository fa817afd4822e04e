use Rattle.std.proofs.Common.{◌≡◌, ◌+◌, ◌≤◌, drop}
use Rattle.clone_window.specs.Bodies.{same_in}
use Rattle.window_index.specs.Groups.{first_led, rows}
use Rattle.window_index.proofs.groups.first_led.Given as goal

abbrev pub invariant-loop-index : goal.invariant-loop-index
invariant-loop-index g l =
    (first_led (same_in l.checked) l.window 0 (rows l.groups) ≡ first_led (same_in l.checked) l.window l.index (rows (drop l.index l.groups)))
    × (l.steps ≡ record l.fn.steps { compared = l.steps.compared })
    × (l.steps.compared ≤ l.fn.steps.compared + l.index)
