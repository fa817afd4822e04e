use Rattle.std.proofs.Common.{sym, ◌∙◌}
use Rattle.go_typed.specs.declared.node.TypedNode.TheViews.{out-TypedNode}
use Rattle.go_values.specs.Views.{views}
use Rattle.go_eval_machine.specs.declared.task.What.TheVariants as what
use Rattle.go_eval_machine.specs.Engines.{works}
use Rattle.go_eval_machine.proofs.Begins.{as_many}
use Rattle.go_eval_machine.proofs.Going.{goes_pushed}
use Rattle.go_eval_machine.proofs.Gathering.{assign_next}
use Rattle.go_eval_machine.proofs.engine.Engine.assign.Goals as goal

pub returns : goal.returns
returns c = λ p h.
    let x = c.args.node.now in
    let b = c.args.base in
    let old = c.args.self.now in
    let vs = views old.values.items in
    let m = c.args.targets in
    let k = c.top-values.result in
    let end = c.count-end.result in
    goes_pushed p (works p x b (what.Assign m)) (works p x k (what.Values m end)) x b (what.Store m k) old c.push.new.self c.next_value.result c.next_value.new.self (h, tt) c.in_ok-push.ensures (c.next_value.ensures p h)
    (λ n s. assign_next p n x b s vs m k end c.top-values.ensures (c.count-end.ensures ∙ sym (as_many p n (out-TypedNode x).parts.items)))
