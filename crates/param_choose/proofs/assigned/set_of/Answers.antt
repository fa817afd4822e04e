use Rattle.std.proofs.Common.{arith}
use Rattle.std.proofs.lemmas.Grind.{common_steps}
use Rattle.param_choose.proofs.assigned.set_of.Goals as goal

pub loop-number-preserved : goal.loop-number-preserved
loop-number-preserved c n = let added = c.in_ok-insert.ensures.updates.0 n in grind (arith, common_steps, added, c.loop-number.invariant n)
