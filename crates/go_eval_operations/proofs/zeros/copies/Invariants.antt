use Rattle.std.proofs.Common.{◌≡◌, replicate}
use Rattle.go_values.specs.Views.{view, views}
use Rattle.go_eval_operations.proofs.zeros.copies.Given as goal

abbrev pub invariant-loop-i : goal.invariant-loop-i
invariant-loop-i l = views l.values.items ≡ replicate l.i (view l.value)
