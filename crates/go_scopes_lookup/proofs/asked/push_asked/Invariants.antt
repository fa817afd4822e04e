use Rattle.std.proofs.Common.{◌≡◌, ◌++◌, List, map, drop}
use Rattle.std.specs.Option.{option_map}
use Rattle.go_tree.specs.Meanings as meanings
use Rattle.go_tree.specs.Lookups.{asked_in}
use Rattle.go_scopes_lookup.specs.Views.{meaning_view, asked_view}
use Rattle.go_scopes_lookup.specs.Sorted.{event_meanings}
use Rattle.go_scopes_lookup.proofs.asked.push_asked.Given as goal

abbrev pub invariant-loop-number : goal.invariant-loop-number
invariant-loop-number l = (ms : List meanings.Meaning) → map (option_map meaning_view) l.told ≡ event_meanings ms l.file l.unit.tokens.now l.unit.events.items → map asked_view l.out.items ++ asked_in ms l.file l.unit.tokens.now (drop l.number l.unit.events.items) ≡ map asked_view l.fn.out.items ++ asked_in ms l.file l.unit.tokens.now l.unit.events.items
