use Rattle.std.proofs.Common.{◌≡◌, length, drop}
use Rattle.go_exprs_rules.specs.Calls.{are_constants}
use Rattle.go_exprs_calls.specs.Shown.{shown, AllShownKnown}
use Rattle.go_exprs_calls.proofs.extremes.are_constants.Given as goal

abbrev pub invariant-loop-node : goal.invariant-loop-node
invariant-loop-node l = record {
  known : AllShownKnown (length l.types.shapes) (drop l.node-index l.nodes);
  same : are_constants (shown l.types (drop l.node-index l.nodes)) ≡ are_constants (shown l.types l.nodes);
}
