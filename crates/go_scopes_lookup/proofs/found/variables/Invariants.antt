use Rattle.std.proofs.Common.{take, map}
use Rattle.go_scopes_lookup.specs.Views.{found_view}
use Rattle.go_scopes_lookup.specs.Keys.{KnowsVariables}
use Rattle.go_scopes_lookup.proofs.found.variables.Given as goal

abbrev pub invariant-loop-d : goal.invariant-loop-d
invariant-loop-d l = KnowsVariables l.variables (map found_view (take l.d-index l.all))
