use Rattle.std.proofs.Common.{◌≡◌, ◌++◌, drop, map}
use Rattle.clone_window.specs.Bodies.{bodies_of}
use Rattle.clone_classes.specs.Listing.{windows_of_all}
use Rattle.clone_replies.proofs.hashes.hashes_of.Given as goal

abbrev pub invariant-loop-f : goal.invariant-loop-f
invariant-loop-f g l =
    map (g.H.WindowHash.number l.hash l.checked) (windows_of_all (record { fewest = l.min; least = l.mass }) 0 (bodies_of l.checked.functions))
    ≡ l.out.items ++ map (g.H.WindowHash.number l.hash l.checked) (windows_of_all (record { fewest = l.min; least = l.mass }) l.f-index (bodies_of (drop l.f-index l.checked.functions)))
