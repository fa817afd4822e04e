use Rattle.std.proofs.Common.{◌≡◌, sym, subst, ap, Ok, Err}
use Rattle.std.proofs.lemmas.Result.{err_from_is_err_and}
use Rattle.go_values.specs.Views.{views}
use Rattle.go_values.specs.Worlds.{world_view}
use Rattle.go_eval_plans.specs.declared.exit.Exit.{Exit}
use Rattle.go_eval_plans.specs.declared.exit.Exit.TheVariants as exit
use Rattle.go_eval_machine.specs.declared.task.What.TheVariants as what
use Rattle.go_eval_machine.specs.Engines.{Goes, works}
use Rattle.go_eval_machine.proofs.Public.{goes_same, goes_undecided}
use Rattle.go_eval.specs.Outs.{outs}
use Rattle.go_eval.proofs.LeavingCalls.{break_leaves, continue_leaves, fall_leaves, panic_leaves, undecided_leaves, goes_panicking}
use Rattle.go_eval.proofs.leave.leave_by.Goals as goal

pub returns-in-Return : goal.returns-in-Return
returns-in-Return c = λ p x. rw c.in-Return.is (c.return_values.ensures p x)

pub returns-in-Break : goal.returns-in-Break
returns-in-Break c = λ p x. let m = c.args.engine.now in let b = c.args.base in let fr = c.args.frame in
    rw c.in-Break.is (goes_same p (outs p x b (what.Leave fr) exit.Break) (works p x b (what.Leave fr)) m c.leave.result c.leave.new.engine (c.leave.ensures p x) (λ n s d f w t. break_leaves p n x b fr s (views m.values.items) d f w t))

pub returns-in-Continue : goal.returns-in-Continue
returns-in-Continue c = λ p x. let m = c.args.engine.now in let b = c.args.base in let fr = c.args.frame in
    rw c.in-Continue.is (goes_same p (outs p x b (what.Leave fr) exit.Continue) (works p x b (what.Leave fr)) m c.leave-in-Continue.result c.leave-in-Continue.new.engine (c.leave-in-Continue.ensures p x) (λ n s d f w t. continue_leaves p n x b fr s (views m.values.items) d f w t))

pub returns-in-Fallthrough : goal.returns-in-Fallthrough
returns-in-Fallthrough c = λ p x. let m = c.args.engine.now in let b = c.args.base in let fr = c.args.frame in
    rw c.in-Fallthrough.is (goes_same p (outs p x b (what.Leave fr) exit.Fallthrough) (works p x b (what.Leave fr)) m c.leave-in-Fallthrough.result c.leave-in-Fallthrough.new.engine (c.leave-in-Fallthrough.ensures p x) (λ n s d f w t. fall_leaves p n x b fr s (views m.values.items) d f w t))

pub returns-in_ok-back-in-Panic : goal.returns-in_ok-back-in-Panic
returns-in_ok-back-in-Panic c = λ p x. let m = c.args.engine.now in let b = c.args.base in let fr = c.args.frame in
    rw c.in-Panic.is (goes_panicking p b fr m c.back.new.engine c.in_ok-back-in-Panic.ensures (outs p x b (what.Leave fr) (exit.Panic c.in-Panic.panic)) c.in-Panic.panic (λ n s d f w t. panic_leaves p n x b fr s (views m.values.items) d f w t c.in-Panic.panic))

pub returns-in-Undecided : goal.returns-in-Undecided
returns-in-Undecided c = λ p x. let m = c.args.engine.now in let b = c.args.base in let fr = c.args.frame in
    rw c.in-Undecided.is (goes_undecided p (outs p x b (what.Leave fr) exit.Undecided) m (λ n s. undecided_leaves p n x b fr s (views m.values.items) m.depth (views m.machine.frame.items) (world_view m.machine.world) m.machine.turns))

pub returns-in_err-back-in-Panic : goal.returns-in_err-back-in-Panic
returns-in_err-back-in-Panic c = λ p x.
    let q = err_from_is_err_and c.from_residual.result c.from_residual.ensures.1 in
    rw (q.1, q.2, c.in_err-back-in-Panic.ensures) tt
