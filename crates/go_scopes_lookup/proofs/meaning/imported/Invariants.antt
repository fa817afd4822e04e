use Rattle.std.proofs.Common.{◌≡◌, ◌++◌, map, drop}
use Rattle.go_tree.specs.Meanings.{imported_from}
use Rattle.go_scopes_lookup.specs.Views.{units_view, entry_view}
use Rattle.go_scopes_lookup.proofs.meaning.imported.Given as goal

abbrev pub invariant-loop-file : goal.invariant-loop-file
invariant-loop-file l = map entry_view l.out.items ++ imported_from l.file (units_view (drop l.file l.units)) ≡ imported_from 0 (units_view l.units)
