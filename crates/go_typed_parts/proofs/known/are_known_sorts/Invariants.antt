use Rattle.std.proofs.Common.{◌≡◌, map, drop}
use Rattle.std.specs.List.{list_all}
use Rattle.go_typed.specs.Packages.{is_below}
use Rattle.go_typed.specs.Trees.{sort_has}
use Rattle.go_typed.specs.Views.{sort_view}
use Rattle.go_typed_parts.proofs.known.are_known_sorts.Given as goal

abbrev pub invariant-loop-sort : goal.invariant-loop-sort
invariant-loop-sort l = list_all (sort_has (is_below l.count)) (map sort_view l.sorts) ≡ list_all (sort_has (is_below l.count)) (map sort_view (drop l.sort-index l.sorts))
