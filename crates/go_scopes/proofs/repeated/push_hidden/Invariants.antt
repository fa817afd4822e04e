use Rattle.std.proofs.Common.{◌≡◌, ◌++◌, drop, map}
use Rattle.go_tree.specs.Repeated.{hidden_names}
use Rattle.go_scopes_lookup.specs.Views.{found_view}
use Rattle.go_scopes.specs.Views.{name_view}
use Rattle.go_scopes.proofs.repeated.push_hidden.Given as goal

abbrev pub invariant-loop-d : goal.invariant-loop-d
invariant-loop-d l = map name_view l.out.items ++ hidden_names l.imported (map found_view (drop l.d-index l.all)) ≡ map name_view l.fn.out.items ++ hidden_names l.imported (map found_view l.all)
