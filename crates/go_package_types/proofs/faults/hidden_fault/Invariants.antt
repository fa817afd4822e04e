use Rattle.std.proofs.Common.{◌≡◌, List, drop}
use Rattle.std.specs.Option.{option_map}
use Rattle.go_tree.specs.Failures.{least, least_from}
use Rattle.go_types_relations.specs.Extends.{Grows}
use Rattle.go_scopes.specs.Views.{failure_of}
use Rattle.go_package_defs.specs.Answer.{hidden_failures}
use Rattle.go_package_defs.specs.Knowledge.{State}
use Rattle.go_package_rounds.specs.World.{package_in, outlines_in, specifications_in}
use Rattle.go_package_types.specs.Known.{Tells}
use Rattle.go_package_types.proofs.faults.hidden_fault.Given as goal

abbrev pub invariant-loop-number : goal.invariant-loop-number
invariant-loop-number l =
    let p = package_in l.world in
    let os = outlines_in l.world in
    let ds = specifications_in l.world in
    Grows l.fn.types l.types
    × ((ss : List State) → Tells l.fn.types l.world l.known ss → least_from (option_map failure_of l.found) (hidden_failures p os ss (drop l.number ds)) ≡ least (hidden_failures p os ss ds))
