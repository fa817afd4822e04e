use Rattle.go_types_relations.specs.Extends.{Extends}
use Rattle.go_package_rounds.specs.World.{Fits}
use Rattle.go_package_order.specs.Progress.{IsFoundIn}
use Rattle.go_package_order.proofs.passes.pass.Given as goal

abbrev pub invariant-loop-number : goal.invariant-loop-number
invariant-loop-number l =
    Extends l.fn.types l.types
    × Fits l.types l.world
    × IsFoundIn l.types l.progress
