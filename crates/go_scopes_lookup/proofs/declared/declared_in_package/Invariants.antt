use Rattle.std.proofs.Common.{◌≡◌, ◌++◌, map, drop}
use Rattle.go_tree.specs.Uses.{declared_in_package}
use Rattle.go_scopes_lookup.specs.Views.{found_view}
use Rattle.go_scopes_lookup.proofs.declared.declared_in_package.Given as goal

abbrev pub invariant-loop-d : goal.invariant-loop-d
invariant-loop-d l = l.out.items ++ declared_in_package (map found_view (drop l.d-index l.declared)) ≡ declared_in_package (map found_view l.declared)
