use Rattle.std.proofs.Common.{◌≡◌, drop}
use Rattle.go_tree.specs.Imports.{imports_fmt}
use Rattle.go_scopes_lookup.proofs.meaning.imports_fmt.Given as goal

abbrev pub invariant-loop-event : goal.invariant-loop-event
invariant-loop-event l = imports_fmt l.unit.tokens.now (drop l.event-index l.unit.events.items) ≡ imports_fmt l.unit.tokens.now l.unit.events.items
