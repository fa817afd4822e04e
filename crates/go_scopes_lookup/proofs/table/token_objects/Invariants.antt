use Rattle.std.proofs.Common.{◌≡◌, List, map, drop, length}
use Rattle.std.specs.Option.{option_map}
use Rattle.go_tree.specs.Objects.{token_objects}
use Rattle.go_tree.specs.Meanings as meanings
use Rattle.go_scopes_lookup.specs.Tables.{Owns}
use Rattle.go_scopes_lookup.specs.Views.{meaning_view}
use Rattle.go_scopes_lookup.specs.Sorted.{event_meanings}
use Rattle.go_scopes_lookup.proofs.table.token_objects.Given as goal

abbrev pub invariant-loop-number : goal.invariant-loop-number
invariant-loop-number l = (ms : List meanings.Meaning) → Owns l.owners ms → map (option_map meaning_view) l.told ≡ event_meanings ms l.file l.unit.tokens.now l.unit.events.items → l.out.items ≡ token_objects ms l.file l.unit.tokens.now (drop l.number l.unit.events.items) 0 (length l.unit.tokens.now.tokens)
