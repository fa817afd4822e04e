use Rattle.std.proofs.Common.{subst, ap, ◌∙◌, Ok}
use Rattle.go_eval.specs.Ends.{IsRun}
use Rattle.go_eval.proofs.Endings.{ended_is}
use Rattle.go_eval.proofs.outcome.outcome_of.Goals as goal

pub returns-in-Ok : goal.returns-in-Ok
returns-in-Ok c = λ o h. ap Ok (ended_is c.args.machine.now o c.in_ok-output.output.items (c.in_ok-output.ensures.items_if_clones_equal (λ x y e. e) ∙ c.output.ensures) tt (subst (λ r. IsRun r c.args.machine.now o) c.in-Ok.is h))

pub returns-in-Err : goal.returns-in-Err
returns-in-Err c = λ o h. c.left.ensures c.args.machine.now o (c.in_ok-output.ensures.items_if_clones_equal (λ x y e. e) ∙ c.output.ensures) (subst (λ r. IsRun r c.args.machine.now o) c.in-Err.is h)
