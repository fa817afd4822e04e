use Rattle.std.proofs.Common.{◌≡◌, ◌++◌, List, length, map, drop}
use Rattle.go_types.specs.Tables.{rights_of}
use Rattle.go_types_relations.specs.Extends.{Grows}
use Rattle.go_package_defs.specs.Knowledge.{State}
use Rattle.go_package_defs.specs.Knowledge as knowledge
use Rattle.go_package_defs.specs.Verdicts.{next_states}
use Rattle.go_package_rounds.specs.Held.{all_seen, summary, AllHeld}
use Rattle.go_package_rounds.specs.World.{package_in, outlines_in, StandsFor}
use Rattle.go_package_rounds.proofs.round.judge_all.Given as goal

abbrev pub invariant-loop-number : goal.invariant-loop-number
invariant-loop-number l =
    let p = package_in l.world in
    let os = outlines_in l.world in
    Grows l.fn.types l.types
    × AllHeld (length l.types.shapes) l.found.items
    × ((ss : List State) → StandsFor l.fn.types l.world knowledge.is_sound l.sound ss → StandsFor l.fn.types l.world knowledge.is_told l.told ss → rights_of l.fn.types ≡ knowledge.rights_of p ss
    → all_seen l.types l.found.items ++ map summary (next_states p os ss l.number (drop l.number os)) ≡ map summary (next_states p os ss 0 os))
