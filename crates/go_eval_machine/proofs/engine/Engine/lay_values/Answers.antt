use Rattle.std.proofs.Common.{ℕ, sym, ap}
use Rattle.go_values.specs.Views.{views}
use Rattle.go_eval_machine.specs.declared.task.What.TheVariants as what
use Rattle.go_eval_machine.specs.Tasks.{task_rest}
use Rattle.go_eval_machine.specs.Engines.{works, lays_values}
use Rattle.go_eval_machine.proofs.Going.{goes_pushed}
use Rattle.go_eval_machine.proofs.engine.Engine.lay_values.Goals as goal

pub returns : goal.returns
returns c = λ p h.
    let x = c.args.node.now in
    let w = c.args.what in
    let b = c.top-base.result in
    let old = c.args.self.now in
    let vs = views old.values.items in
    goes_pushed p (lays_values p x w c.args.end) (works p x b (what.Values 0 c.args.end)) x b w old c.push.new.self c.next_value.result c.next_value.new.self h c.in_ok-push.ensures (c.next_value.ensures p h.0)
    (λ n s d f u t. ap (λ (k : ℕ). (task_rest p n x k (what.Values 0 c.args.end) (task_rest p n x k w s)).go vs d f u t) (sym c.top-base.ensures))
