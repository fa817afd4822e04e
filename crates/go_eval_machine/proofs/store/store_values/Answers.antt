use Rattle.std.proofs.Common.{◌≡◌, List, Option, take, drop, ap, ◌∙◌, subst}
use Rattle.go_typed.specs.declared.node.TypedNode.{TypedNode}
use Rattle.go_meaning.specs.Values.{Value}
use Rattle.go_meaning.specs.Doings.{stores}
use Rattle.go_values.specs.declared.value.Value as code
use Rattle.go_values.specs.Views.{views}
use Rattle.go_eval_plans.specs.Machines.{outcome}
use Rattle.go_eval_plans.specs.Programs.{doings}
use Rattle.go_eval_machine.specs.declared.task.What.TheVariants as what
use Rattle.go_eval_machine.specs.Tasks.{parts_of}
use Rattle.go_eval_machine.specs.Engines.{works}
use Rattle.go_eval_machine.specs.Written.{IsWritten}
use Rattle.go_eval_machine.proofs.GoingAssignments.{goes_stored}
use Rattle.go_eval_machine.proofs.Storing.{values_stored}
use Rattle.go_eval_machine.proofs.store.store_values.Goals as goal

pub returns : goal.returns
returns c =
    let p = c.args.checked.now in
    let x = c.args.node.now in
    let b = c.args.base in
    let k = c.args.first in
    let t = c.args.targets in
    let m = c.args.engine.now in
    let m1 = c.take.new.self in
    let vs = views m.values.items in
    let M = c.store_all-answer.new.machine in
    let r = c.store_all-answer.result in
    let us : views c.above.result.now ≡ drop b (take k vs) = c.above.ensures ∙ (ap (λ (ws : List code.Value). drop b (views ws)) c.deref-2.ensures.value ∙ ap (drop b) c.in_ok-values.ensures.values) in
    goes_stored p (works p x b (what.Store t k)) (λ n. stores (take t (parts_of p n x)) (drop b (take k vs)) (drop k vs)) m m1 c.cut.new.self M (take b (take k vs)) r
    c.in_ok-values.ensures.kept c.cut.ensures.kept (c.cut.ensures.values ∙ ap (take b) c.in_ok-values.ensures.values) c.store_all-answer.ensures.turns
    (λ n. subst (λ (zs : List Value). IsWritten (outcome (stores (take t (parts_of p n x)) (drop b (take k vs)) zs) m.depth m1.machine) r M) c.in_ok-values.ensures.taken
    (subst (λ (zs : List Value). IsWritten (outcome (stores (take t (parts_of p n x)) zs (views c.in_ok-values.values.items)) m.depth m1.machine) r M) us
    (subst (λ (ys : List (Option TypedNode)). IsWritten (outcome (stores (take t (doings p n ys)) (views c.above.result.now) (views c.in_ok-values.values.items)) m.depth m1.machine) r M) c.deref.ensures.value (c.store_all-answer.ensures.is n m.depth))))
    (λ n s. values_stored p n x s vs b t k)
