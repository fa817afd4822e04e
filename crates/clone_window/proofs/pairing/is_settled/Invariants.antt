use Rattle.std.specs.Prelude.{nat_eq}
use Rattle.std.specs.HashMap.{get}
use Rattle.clone_window.proofs.Settled.{SettledSoFar}
use Rattle.clone_window.proofs.pairing.is_settled.Given as goal

abbrev pub invariant-loop-index : goal.invariant-loop-index
invariant-loop-index l = SettledSoFar (get nat_eq l.partners) l.left l.right l.index
