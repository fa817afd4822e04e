use Rattle.std.proofs.Common.{List, ◌++◌, refl, ap, ◌∙◌}
use Rattle.std.proofs.lemmas.Result.{err_from_is_err_and}
use Rattle.go_meaning.specs.Values.{Value}
use Rattle.go_values.specs.Views.{views}
use Rattle.go_values.proofs.Public.{views_append}
use Rattle.go_eval_plans.specs.Machines.{values_view}
use Rattle.go_eval_plans.specs.declared.exit.Exit.TheVariants as exit
use Rattle.go_eval_machine.specs.declared.task.What.TheVariants as what
use Rattle.go_eval.specs.Outs.{outs}
use Rattle.go_eval.proofs.LeavingCalls.{goes_returned, return_leaves}
use Rattle.go_eval.proofs.leave.return_values.Goals as goal

pub returns : goal.returns
returns c = λ p x.
    let m = c.args.engine.now in
    let b = c.args.base in
    let fr = c.args.frame in
    let m1 = c.back.new.engine in
    let us = c.args.values in
    goes_returned p b fr m m1 c.in_ok-back.ensures (outs p x b (what.Leave fr) (exit.Return us)) (record m1 { values = c.append.new.self }) (values_view us) refl refl refl
    (ap views c.in_ok-append.ensures.items ∙ (views_append m1.values.items c.in-Ok.results.items ∙ ap (λ (ws : List Value). views m1.values.items ++ ws) c.in-Ok.ensures))
    (λ n s d f w t. return_leaves p n x b fr s (views m.values.items) d f w t us)
