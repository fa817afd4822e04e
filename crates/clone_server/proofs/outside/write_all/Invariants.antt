use Rattle.std.proofs.Common.{◌≡◌, List, ℕ, Some, length}
use Rattle.clone_server.specs.Serving.{LeavesBytes}
use Rattle.clone_server.proofs.outside.write_all.Given as goal

abbrev pub invariant-loop-rest : goal.invariant-loop-rest
invariant-loop-rest g l = record {
  count : g.K.Sink.faults l.out ≡ g.K.Sink.faults l.fn.out;
  told : (before : List ℕ) → g.K.Sink.written l.fn.out ≡ Some before → LeavesBytes before l.bytes l.rest (g.K.Sink.written l.out);
}

abbrev pub decreases-loop-rest : goal.decreases-loop-rest
decreases-loop-rest g l = length l.rest
