use Rattle.std.proofs.Common.{drop, map}
use Rattle.go_scopes_lookup.specs.Tables.{Owns}
use Rattle.go_scopes_lookup.specs.Views.{meaning_view}
use Rattle.go_scopes_lookup.proofs.table.owners_of.Given as goal

abbrev pub invariant-loop-number : goal.invariant-loop-number
invariant-loop-number l = Owns l.owners (map meaning_view (drop l.number l.all))
