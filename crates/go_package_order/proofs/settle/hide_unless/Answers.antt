use Rattle.go_package_order.proofs.settle.hide_unless.Goals as goal

pub loop-number-preserved : goal.loop-number-preserved
loop-number-preserved c = λ n a. c.in_ok-hide.ensures n (c.loop-number.invariant n a)
