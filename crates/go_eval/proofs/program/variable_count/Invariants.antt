use Rattle.std.proofs.Common.{◌≡◌, ◌+◌, ◌≤◌, drop}
use Rattle.go_eval.proofs.Counting.{variables_in}
use Rattle.go_eval.proofs.program.variable_count.Given as goal

abbrev pub invariant-loop-object : goal.invariant-loop-object
invariant-loop-object l = (variables_in l.objects ≡ l.count + variables_in (drop l.object-index l.objects)) × (l.count ≤ l.object-index)
