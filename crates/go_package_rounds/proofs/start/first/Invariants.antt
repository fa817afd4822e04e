use Rattle.std.proofs.Common.{◌≡◌, ◌++◌, length, map, drop}
use Rattle.go_package_defs.specs.Verdicts.{first_states}
use Rattle.go_package_rounds.specs.Held.{all_seen, summary, AllHeld}
use Rattle.go_package_rounds.specs.World.{package_in, outlines_in}
use Rattle.go_package_rounds.proofs.start.first.Given as goal

abbrev pub invariant-loop-number : goal.invariant-loop-number
invariant-loop-number l =
    let p = package_in l.world in
    let os = outlines_in l.world in
    AllHeld (length l.types.shapes) l.found.items
    × (all_seen l.types l.found.items ++ map summary (first_states p l.number (drop l.number os)) ≡ map summary (first_states p 0 os))
