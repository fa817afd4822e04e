use Rattle.std.proofs.Common.{◌≡◌, ◌+◌, drop, length, slice_get}
use Rattle.go_tree.specs.Branches.{statements}
use Rattle.go_scopes.proofs.branches.nth_statement.Given as goal

abbrev pub invariant-loop-event : goal.invariant-loop-event
invariant-loop-event l = record {
  place : slice_get (statements l.file l.unit.tokens.now (drop l.event-index l.unit.events.items)) l.left ≡ slice_get (statements l.file l.unit.tokens.now l.unit.events.items) l.skip;
  count : l.left + length (statements l.file l.unit.tokens.now l.unit.events.items) ≡ l.skip + length (statements l.file l.unit.tokens.now (drop l.event-index l.unit.events.items));
}
