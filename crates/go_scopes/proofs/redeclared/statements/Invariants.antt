use Rattle.std.proofs.Common.{take, map}
use Rattle.go_scopes_lookup.specs.Views.{found_view}
use Rattle.go_scopes_lookup.specs.Keys.{KnowsStatements}
use Rattle.go_scopes.proofs.redeclared.statements.Given as goal

abbrev pub invariant-loop-d : goal.invariant-loop-d
invariant-loop-d l = KnowsStatements l.statements (map found_view (take l.d-index l.declared))
