use Rattle.std.proofs.Common.{None, length, take, ap, sym, ◌∙◌, arith}
use Rattle.std.specs.Prelude.{slice_get}
use Rattle.std.proofs.lemmas.List.{length-set}
use Rattle.go_types.proofs.Waiters.{take_set, free_more}
use Rattle.go_types.proofs.waits.leave_from.Goals as goal

pub loop-a-preserved : goal.loop-a-preserved
loop-a-preserved c =
    let xs = c.loop-a.awaited in
    let a = c.loop-a.a in
    let long = c.loop-a.invariant.long in
    let test = c.loop-a-test.true in
    record {
      counted = c.leave.ensures.counted;
      long = ap length c.leave.ensures.awaited ∙ (length-set xs a None ∙ long);
      front = ap (take c.args.count) c.leave.ensures.awaited ∙ (take_set c.args.count xs a None (omega arith) ∙ c.loop-a.invariant.front);
      free = λ i o le lt e. free_more c.args.count a xs (omega arith) c.loop-a.invariant.free i o le lt (ap (λ l. slice_get l i) (sym c.leave.ensures.awaited) ∙ e);
    }
