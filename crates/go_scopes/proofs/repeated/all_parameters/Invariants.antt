use Rattle.std.proofs.Common.{◌≡◌, ◌++◌, drop, map}
use Rattle.go_tree.specs.Repeated.{parameters_from}
use Rattle.go_scopes_lookup.specs.Views.{units_view}
use Rattle.go_scopes.specs.Views.{name_view}
use Rattle.go_scopes.proofs.repeated.all_parameters.Given as goal

abbrev pub invariant-loop-file : goal.invariant-loop-file
invariant-loop-file l = map name_view l.out.items ++ parameters_from l.file (units_view (drop l.file l.units)) ≡ parameters_from 0 (units_view l.units)
