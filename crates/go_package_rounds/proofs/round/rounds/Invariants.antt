use Rattle.std.proofs.Common.{◌≡◌, ◌≤◌, length}
use Rattle.go_types_relations.specs.Extends.{Extends}
use Rattle.go_package_defs.specs.Verdicts.{known}
use Rattle.go_package_rounds.specs.Held.{AllHeld}
use Rattle.go_package_rounds.specs.World.{package_in, outlines_in, Fits, Shows}
use Rattle.go_package_rounds.proofs.round.rounds.Given as goal

abbrev pub invariant-loop-number : goal.invariant-loop-number
invariant-loop-number l =
    let p = package_in l.world in
    let os = outlines_in l.world in
    Extends l.fn.types l.types
    × Fits l.types l.world
    × AllHeld (length l.types.shapes) l.all.items
    × (Shows l.fn.types l.world l.fn.first.items (known p os 0) → Shows l.types l.world l.all.items (known p os l.number))
