use Rattle.std.proofs.Common.{◌≡◌, replicate}
use Rattle.go_values.specs.Views.{view, views}
use Rattle.go_eval_machine.proofs.store.copies.Given as goal

abbrev pub invariant-loop-number : goal.invariant-loop-number
invariant-loop-number l = views l.values.items ≡ replicate l.number (view l.value)
