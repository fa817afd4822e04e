use Rattle.std.proofs.Common.{◌≡◌, ◌+◌, drop, length, replicate}
use Rattle.go_meaning.specs.Values.{NilFunction}
use Rattle.go_meaning.specs.Meaning.{with_arguments}
use Rattle.go_values.specs.Views.{views}
use Rattle.go_eval_plans.proofs.calls.frame_of.Given as goal

abbrev pub invariant-loop-number : goal.invariant-loop-number
invariant-loop-number l = with_arguments (drop l.number l.parameters) (drop (l.number + 1) (views l.operands.items)) (views l.frame.items) ≡ with_arguments l.parameters (drop 1 (views l.fn.operands.items)) (replicate (length l.function.locals) NilFunction)
