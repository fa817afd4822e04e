use Rattle.std.proofs.Common.{◌≡◌, drop}
use Rattle.go_tree.specs.Failures.{of_files}
use Rattle.go_tree.specs.Branches.{statements, first_place}
use Rattle.go_scopes_lookup.specs.Views.{units_view}
use Rattle.go_scopes.proofs.branches.limit.Given as goal

abbrev pub invariant-loop-file : goal.invariant-loop-file
invariant-loop-file l = first_place (drop l.left (of_files statements l.file (units_view (drop l.file l.units)))) ≡ first_place (drop 65536 (of_files statements 0 (units_view l.units)))
