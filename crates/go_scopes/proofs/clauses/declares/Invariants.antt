use Rattle.std.proofs.Common.{◌≡◌, drop, map}
use Rattle.go_tree.specs.Clauses.{declares}
use Rattle.go_scopes_lookup.specs.Views.{found_view}
use Rattle.go_scopes.proofs.clauses.declares.Given as goal

abbrev pub invariant-loop-d : goal.invariant-loop-d
invariant-loop-d l = declares l.name (map found_view (drop l.d-index l.all)) ≡ declares l.name (map found_view l.all)
