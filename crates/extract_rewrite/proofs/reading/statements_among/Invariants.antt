use Rattle.std.proofs.Common.{◌≡◌, ◌≤◌, ◌+◌, drop, length}
use Rattle.go_tree.specs.Branches.{statements}
use Rattle.extract_rewrite.proofs.reading.statements_among.Given as goal

abbrev pub invariant-loop-event : goal.invariant-loop-event
invariant-loop-event l = record {
  few : l.count ≤ l.event-index;
  counted : l.count + length (statements l.number l.file.tokens (drop l.event-index l.told)) ≡ length (statements l.number l.file.tokens l.told);
}
