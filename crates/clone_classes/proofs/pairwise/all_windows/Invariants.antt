use Rattle.std.proofs.Common.{◌≡◌, ◌++◌, drop}
use Rattle.clone_window.specs.Bodies.{bodies_of}
use Rattle.clone_classes.specs.Listing.{windows_of_all}
use Rattle.clone_classes.proofs.pairwise.all_windows.Given as goal

abbrev pub invariant-loop-f : goal.invariant-loop-f
invariant-loop-f l =
    windows_of_all (record { fewest = l.min; least = l.mass }) 0 (bodies_of l.checked.functions)
    ≡ l.out.items ++ windows_of_all (record { fewest = l.min; least = l.mass }) l.f-index (bodies_of (drop l.f-index l.checked.functions))
