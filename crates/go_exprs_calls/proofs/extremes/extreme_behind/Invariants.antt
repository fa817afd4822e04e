use Rattle.std.proofs.Common.{◌≡◌, length, drop}
use Rattle.go_exprs_rules.specs.Calls.{extreme_behind}
use Rattle.go_exprs_calls.specs.Shown.{shown, AllShownKnown}
use Rattle.go_exprs_calls.proofs.extremes.extreme_behind.Given as goal

abbrev pub invariant-loop-node : goal.invariant-loop-node
invariant-loop-node l = record {
  known : AllShownKnown (length l.types.shapes) (drop l.node-index l.nodes);
  same : extreme_behind l.op l.value (shown l.types (drop l.node-index l.nodes)) ≡ extreme_behind l.op l.initial.value (shown l.types l.nodes);
}
