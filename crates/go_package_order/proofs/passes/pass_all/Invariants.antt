use Rattle.go_types_relations.specs.Extends.{Extends}
use Rattle.go_package_rounds.specs.World.{Fits}
use Rattle.go_package_order.specs.Progress.{IsFoundIn}
use Rattle.go_package_order.proofs.passes.pass_all.Given as goal

abbrev pub invariant-loop-group : goal.invariant-loop-group
invariant-loop-group l =
    Extends l.fn.types l.types
    × Fits l.types l.world
    × IsFoundIn l.types l.progress
