use Rattle.std.proofs.Common.{sym, ◌∙◌, arith}
use Rattle.go_values.specs.Views.{views}
use Rattle.go_eval_operations.proofs.Building.{placed_all, either}
use Rattle.go_eval_operations.proofs.builds.placed.Goals as goal

pub returns : goal.returns
returns c =
    sym (placed_all c.args.places.now c.loop-i.others.items c.loop-i.i (views c.loop-i.values.items) (either _ _ c.loop-i.i (omega (arith, c.loop-i-test.false, c.loop-i.invariant.same))))
    ∙ c.loop-i.invariant.rest
