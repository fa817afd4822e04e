use Rattle.std.proofs.Common.{◌≡◌, take, drop, map, []}
use Rattle.std.specs.Option.{option_map}
use Rattle.go_tree.specs.Redeclared.{second_declarations}
use Rattle.go_scopes.specs.Noted.{noted}
use Rattle.go_base.specs.declared.fault.FaultCode.TheVariants as code
use Rattle.go_scopes_lookup.specs.Views.{found_view}
use Rattle.go_scopes.specs.Views.{failure_of}
use Rattle.go_scopes_lookup.specs.Keys.{KnowsNames}
use Rattle.go_scopes.proofs.redeclared.second_declarations.Given as goal

abbrev pub invariant-loop-d : goal.invariant-loop-d
invariant-loop-d l = record {
  known : KnowsNames l.names (map found_view (take l.d-index l.all));
  same : noted (option_map failure_of l.found) code.Redeclared (second_declarations (map found_view (take l.d-index l.all)) (map found_view (drop l.d-index l.all))) ≡ noted (option_map failure_of l.initial.found) code.Redeclared (second_declarations [] (map found_view l.all));
}
