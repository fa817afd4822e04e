use Rattle.std.proofs.Common.{◌≡◌, drop, map}
use Rattle.std.specs.Option.{option_map}
use Rattle.go_tree.specs.Lookups.{unused_variables}
use Rattle.go_scopes.specs.Noted.{noted}
use Rattle.go_base.specs.declared.fault.FaultCode.TheVariants as code
use Rattle.go_scopes_lookup.specs.Views.{found_view, asked_view}
use Rattle.go_scopes.specs.Views.{failure_of}
use Rattle.go_scopes.proofs.unused.unused_variables.Given as goal

abbrev pub invariant-loop-d : goal.invariant-loop-d
invariant-loop-d l =
    noted (option_map failure_of l.found) code.UnusedVariable (unused_variables (map asked_view l.lookups) (map found_view (drop l.d-index l.declared)))
    ≡ noted (option_map failure_of l.fn.found) code.UnusedVariable (unused_variables (map asked_view l.lookups) (map found_view l.declared))
