use Rattle.go_values.specs.Views.{views}
use Rattle.go_eval_machine.specs.declared.task.What.TheVariants as what
use Rattle.go_eval_machine.specs.Engines.{works}
use Rattle.go_eval.proofs.LeavingCalls.{left_body_or, leave_goes}
use Rattle.go_eval.proofs.leave.leave.Goals as goal

pub returns : goal.returns
returns c = λ p x.
    let m = c.args.engine.now in
    left_body_or p c.args.base c.args.frame m c.back.new.engine (works p x c.args.base (what.Leave c.args.frame)) c.back.result c.back.ensures (λ n s d f w t. leave_goes p n x c.args.base c.args.frame s (views m.values.items) d f w t)
