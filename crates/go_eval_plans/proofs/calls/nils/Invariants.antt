use Rattle.std.proofs.Common.{◌≡◌, replicate}
use Rattle.go_meaning.specs.Values.{NilFunction}
use Rattle.go_values.specs.Views.{views}
use Rattle.go_eval_plans.proofs.calls.nils.Given as goal

abbrev pub invariant-loop-i : goal.invariant-loop-i
invariant-loop-i l = views l.values.items ≡ replicate l.i NilFunction
