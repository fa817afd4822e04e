use Rattle.std.proofs.Common.{drop, length}
use Rattle.go_eval.specs.Runs.{AreKnown}
use Rattle.go_eval.proofs.Sequences.{Left}
use Rattle.go_eval.proofs.steps.run_trees.Given as goal

abbrev pub invariant-loop-node : goal.invariant-loop-node
invariant-loop-node l = record {
  left : Left l.checked l.nodes l.fn.engine.machine (drop l.node-index l.nodes) l.engine.machine;
  known : AreKnown (length l.checked.types.shapes) (drop l.node-index l.nodes);
}
