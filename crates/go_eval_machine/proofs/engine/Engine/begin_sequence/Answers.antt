use Rattle.std.proofs.Common.{ℕ, sym, ap}
use Rattle.go_values.specs.Views.{views}
use Rattle.go_eval_machine.specs.declared.task.What.TheVariants as what
use Rattle.go_eval_machine.specs.Engines.{works, lays}
use Rattle.go_eval_machine.proofs.Going.{goes_same}
use Rattle.go_eval_machine.proofs.engine.Engine.begin_sequence.Goals as goal

pub returns : goal.returns
returns c =
    let p = c.args.checked.now in
    let x = c.args.node.now in
    let w = what.Sequence c.args.next in
    let b = c.top-base.result in
    let old = c.args.self.now in
    let vs = views old.values.items in
    goes_same p (lays p x w) (works p x b w) old c.sequence.result c.sequence.new.self c.sequence.ensures (λ n s d f u t. ap (λ (k : ℕ). works p x k w n s vs d f u t) (sym c.top-base.ensures))
