use Rattle.std.proofs.Common.{◌≡◌, ◌++◌, map, drop}
use Rattle.go_scopes_lookup.specs.Views.{entry_view, meaning_view}
use Rattle.go_scopes_lookup.proofs.meaning.meanings.Given as goal

abbrev pub invariant-loop-entry : goal.invariant-loop-entry
invariant-loop-entry l = map meaning_view l.out.items ++ map entry_view (drop l.entry-index l.entries) ≡ map entry_view l.entries
