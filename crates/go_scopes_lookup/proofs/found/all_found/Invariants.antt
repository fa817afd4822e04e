use Rattle.std.proofs.Common.{◌≡◌, ◌≤◌, ◌+◌, ◌++◌, length, map}
use Rattle.go_tree.specs.Declarations.{found, found_from}
use Rattle.go_scopes_lookup.specs.Views.{units_view, found_view}
use Rattle.go_scopes_lookup.proofs.found.all_found.Given as goal

abbrev pub invariant-loop-units : goal.invariant-loop-units
invariant-loop-units l = record {
  few : l.file + length l.units ≤ 256;
  same : map found_view l.out.items ++ found_from l.file (units_view l.units) ≡ found (units_view l.initial.units);
}

abbrev pub decreases-loop-units : goal.decreases-loop-units
decreases-loop-units l = length l.units
