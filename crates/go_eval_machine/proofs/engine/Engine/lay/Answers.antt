use Rattle.std.proofs.Common.{ℕ, sym, ap}
use Rattle.go_values.specs.Views.{views}
use Rattle.go_eval_machine.specs.Tasks.{task_rest}
use Rattle.go_eval_machine.specs.Engines.{lays}
use Rattle.go_eval_machine.proofs.Going.{goes_laid}
use Rattle.go_eval_machine.proofs.engine.Engine.lay.Goals as goal

pub returns : goal.returns
returns c = λ p h.
    let x = c.args.node.now in
    let w = c.args.what in
    let old = c.args.self.now in
    let vs = views old.values.items in
    goes_laid p (lays p x w) x c.top-base.result w old c.push.new.self tt h c.in_ok-push.ensures
    (λ n s d f u t. ap (λ (b : ℕ). (task_rest p n x b w s).go vs d f u t) (sym c.top-base.ensures))
