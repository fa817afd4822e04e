use Rattle.std.proofs.Common.{ℕ, sym, ap}
use Rattle.go_values.specs.Views.{views}
use Rattle.go_meaning.specs.Doings.{at}
use Rattle.go_eval_machine.specs.Rests.{then_rest}
use Rattle.go_eval_machine.specs.Tasks.{parts_of, task_rest}
use Rattle.go_eval_machine.specs.Engines.{lays_value, asks_part}
use Rattle.go_eval_machine.proofs.Going.{goes_pushed}
use Rattle.go_eval_machine.proofs.engine.Engine.lay_value.Goals as goal

pub returns : goal.returns
returns c = λ p h.
    let x = c.args.node.now in
    let w = c.args.what in
    let k = c.args.number in
    let old = c.args.self.now in
    let vs = views old.values.items in
    goes_pushed p (lays_value p x w k) (asks_part p x k) x c.top-base.result w old c.push.new.self c.ask.result c.ask.new.self h c.in_ok-push.ensures (c.ask.ensures p h.0)
    (λ n s d f u t. ap (λ (b : ℕ). then_rest (at (parts_of p n x) k).value (task_rest p n x b w s) vs d f u t) (sym c.top-base.ensures))
