use Rattle.std.proofs.Common.{◌≡◌, drop}
use Rattle.std.specs.Option.{option_map}
use Rattle.go_base.specs.declared.fault.FaultCode.TheVariants as code
use Rattle.go_tree.specs.Clauses.{other_names}
use Rattle.go_scopes_lookup.specs.Views.{units_view}
use Rattle.go_scopes.specs.Noted.{noted}
use Rattle.go_scopes.specs.Views.{failure_of}
use Rattle.go_scopes.proofs.clauses.other_names.Given as goal

abbrev pub invariant-loop-file : goal.invariant-loop-file
invariant-loop-file l =
    noted (option_map failure_of l.found) code.PackageName (other_names l.name l.file (units_view (drop l.file l.units)))
    ≡ noted (option_map failure_of l.fn.found) code.PackageName (other_names l.name 0 (units_view l.units))
