use Rattle.std.proofs.Common.{◌≡◌, ◌++◌, take, drop}
use Rattle.clone_window.specs.Bodies.{same_in}
use Rattle.clone_classes.specs.Classes.{classes, classes_from}
use Rattle.clone_classes.specs.Listing.{members_of}
use Rattle.clone_classes.proofs.pairwise.pairwise.Given as goal

abbrev pub invariant-loop-index : goal.invariant-loop-index
invariant-loop-index o l =
    classes (same_in l.checked) l.windows.items
    ≡ members_of l.classes.items
    ++ classes_from (same_in l.checked) (take l.index l.windows.items) (drop l.index l.windows.items)
