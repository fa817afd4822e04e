use Rattle.std.proofs.Common.{◌≡◌, map, take}
use Rattle.clone_window.specs.Bodies.{bodies_of}
use Rattle.clone_classes.specs.Choices.{place_of}
use Rattle.clone_classes.proofs.place.places_of.Given as goal

abbrev pub invariant-loop-window : goal.invariant-loop-window
invariant-loop-window l = l.places.items ≡ map (place_of (bodies_of l.checked.functions)) (take l.window-index l.windows)
