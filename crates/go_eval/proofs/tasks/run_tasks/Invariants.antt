use Rattle.go_eval.proofs.Carrying.{Carries}
use Rattle.go_eval.proofs.tasks.run_tasks.Given as goal

abbrev pub invariant-loop-step : goal.invariant-loop-step
invariant-loop-step l = Carries l.checked l.fn.engine l.fn.answer l.answer l.engine
