use Rattle.std.proofs.Common.{take}
use Rattle.clone_window.specs.Bodies.{bodies_of}
use Rattle.clone_classes.specs.Choices.{place_of}
use Rattle.clone_classes.specs.Orders.{AreOrdered}
use Rattle.clone_classes.proofs.listed.in_themselves.Given as goal

abbrev pub invariant-loop-group : goal.invariant-loop-group
invariant-loop-group l = AreOrdered (place_of (bodies_of l.checked.functions)) (take l.group-index l.groups) l.classes.items
