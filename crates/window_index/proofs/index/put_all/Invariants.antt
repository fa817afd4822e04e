use Rattle.clone_window.specs.Bodies.{same_in}
use Rattle.window_index.proofs.Counting.{PutSoFar}
use Rattle.window_index.proofs.index.put_all.Given as goal

abbrev pub invariant-loop-index : goal.invariant-loop-index
invariant-loop-index g l = PutSoFar (same_in l.checked) l.hashes l.index l.fn.buckets.entries l.buckets.entries l.fn.steps l.steps
