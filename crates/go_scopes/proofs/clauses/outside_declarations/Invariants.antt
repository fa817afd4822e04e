use Rattle.std.proofs.Common.{◌≡◌, map, drop}
use Rattle.std.specs.Option.{option_map}
use Rattle.go_base.specs.declared.fault.FaultCode.TheVariants as code
use Rattle.go_tree.specs.Clauses.{outside_declarations}
use Rattle.go_scopes_lookup.specs.Views.{found_view}
use Rattle.go_scopes.specs.Noted.{noted}
use Rattle.go_scopes.specs.Views.{failure_of}
use Rattle.go_scopes.proofs.clauses.outside_declarations.Given as goal

abbrev pub invariant-loop-d : goal.invariant-loop-d
invariant-loop-d l = noted (option_map failure_of l.found) code.Outside (outside_declarations (map found_view (drop l.d-index l.all))) ≡ noted (option_map failure_of l.fn.found) code.Outside (outside_declarations (map found_view l.all))
