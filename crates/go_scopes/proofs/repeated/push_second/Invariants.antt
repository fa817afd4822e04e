use Rattle.std.proofs.Common.{◌≡◌, ◌++◌, take, drop, map, []}
use Rattle.go_tree.specs.Repeated.{second_names}
use Rattle.go_scopes_lookup.specs.Views.{found_view}
use Rattle.go_scopes_lookup.specs.Keys.{KnowsNames}
use Rattle.go_scopes.specs.Views.{name_view}
use Rattle.go_scopes.proofs.repeated.push_second.Given as goal

abbrev pub invariant-loop-d : goal.invariant-loop-d
invariant-loop-d l = record {
  known : KnowsNames l.names (map found_view (take l.d-index l.all));
  same : map name_view l.out.items ++ second_names (map found_view (take l.d-index l.all)) (map found_view (drop l.d-index l.all)) ≡ map name_view l.fn.out.items ++ second_names [] (map found_view l.all);
}
