use Rattle.std.proofs.Common.{◌≡◌, drop}
use Rattle.std.specs.Option.{option_map}
use Rattle.go_tree.specs.Failures.{of_files}
use Rattle.go_scopes_lookup.specs.Views.{units_view}
use Rattle.go_scopes.specs.Noted.{noted}
use Rattle.go_scopes.specs.Views.{failure_of}
use Rattle.go_scopes.proofs.file_rule.note_files.Given as goal

abbrev pub invariant-loop-file : goal.invariant-loop-file
invariant-loop-file g l =
    noted (option_map failure_of l.found) g.R.FileRule.code (of_files (g.R.FileRule.places l.rule) l.file (units_view (drop l.file l.units)))
    ≡ noted (option_map failure_of l.fn.found) g.R.FileRule.code (of_files (g.R.FileRule.places l.rule) 0 (units_view l.units))
