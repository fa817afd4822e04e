use Rattle.std.proofs.Common.{◌≡◌, List, drop, map}
use Rattle.std.specs.Option.{option_map}
use Rattle.go_tree.specs.Failures.{least_from}
use Rattle.go_scopes.specs.Views.{failure_of}
use Rattle.go_package_defs.specs.Answer.{mains_from}
use Rattle.go_package_defs.specs.Knowledge as knowledge
use Rattle.go_package_defs.specs.Knowledge.{State}
use Rattle.go_needs.specs.Passing.{ArePassing}
use Rattle.go_package_rounds.specs.Held.{all_seen, summary}
use Rattle.go_package_rounds.specs.World.{package_in, outlines_in}
use Rattle.go_package_types.proofs.main_function.note_mains.Given as goal

abbrev pub invariant-loop-number : goal.invariant-loop-number
invariant-loop-number l =
    let p = package_in l.world in
    let os = outlines_in l.world in
    (ss : List State) → all_seen l.types l.all ≡ map summary ss → ArePassing knowledge.is_sound os ss l.passing
    → least_from (option_map failure_of l.fault) (mains_from p os ss l.number (drop l.number p.uses.package_level)) ≡ least_from (option_map failure_of l.fn.found) (mains_from p os ss 0 p.uses.package_level)
