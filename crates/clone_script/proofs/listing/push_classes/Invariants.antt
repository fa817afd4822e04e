use Rattle.std.proofs.Common.{◌≡◌, ◌++◌, ◌+◌, map, drop}
use Rattle.clone_script.specs.Listing.{classes_text}
use Rattle.clone_script.proofs.listing.push_classes.Given as goal

abbrev pub invariant-loop-i : goal.invariant-loop-i
invariant-loop-i l =
    l.out.items ++ classes_text (map (λ name. name.now) l.names) (l.i + 1) (drop l.i l.classes)
    ≡ l.fn.out.items ++ classes_text (map (λ name. name.now) l.names) 1 l.classes
