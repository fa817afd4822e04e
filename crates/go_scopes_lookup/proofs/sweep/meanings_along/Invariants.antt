use Rattle.std.proofs.Common.{◌≡◌, ◌++◌, drop, map}
use Rattle.std.specs.Option.{option_map}
use Rattle.go_scopes_events.specs.Scopes.{locals_of}
use Rattle.go_scopes_lookup.specs.Views.{meaning_view}
use Rattle.go_scopes_lookup.specs.Sorted.{all_of, event_meanings, IsUnderway}
use Rattle.go_scopes_lookup.proofs.sweep.meanings_along.Given as goal

abbrev pub invariant-loop-event : goal.invariant-loop-event
invariant-loop-event l = record {
  told : map (option_map meaning_view) l.out.items ++ event_meanings (all_of l.sorted) l.file l.unit.tokens.now (drop l.event-index l.unit.events.items) ≡ event_meanings (all_of l.sorted) l.file l.unit.tokens.now l.unit.events.items;
  underway : IsUnderway l.file (locals_of l.file (all_of l.sorted)) (drop l.event-index l.unit.events.items) l.scopes.blocks.items (map meaning_view (drop l.entered l.locals));
}
