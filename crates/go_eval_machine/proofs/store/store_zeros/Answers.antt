use Rattle.std.proofs.Common.{◌≡◌, List, Option, take, drop, replicate, ap, ◌∙◌, subst}
use Rattle.go_types.specs.Tables.{type_of, rights_of}
use Rattle.go_typed.specs.declared.node.TypedNode.{TypedNode}
use Rattle.go_meaning.specs.Values.{Value, zero_value}
use Rattle.go_meaning.specs.Planning.{zero_in}
use Rattle.go_meaning.specs.Doings.{stores}
use Rattle.go_eval_plans.specs.Views.{type_in}
use Rattle.go_values.specs.declared.value.Value as code
use Rattle.go_values.specs.Views.{views}
use Rattle.go_eval_plans.specs.Machines.{outcome}
use Rattle.go_eval_plans.specs.Programs.{doings}
use Rattle.go_eval_machine.specs.declared.task.What.TheVariants as what
use Rattle.go_eval_machine.specs.Tasks.{parts_of}
use Rattle.go_eval_machine.specs.Engines.{works}
use Rattle.go_eval_machine.specs.Written.{IsWritten}
use Rattle.go_eval_machine.proofs.GoingAssignments.{goes_stored, kept_itself}
use Rattle.go_eval_machine.proofs.Storing.{zeros_stored}
use Rattle.go_eval_machine.proofs.store.store_zeros.Goals as goal

pub returns : goal.returns
returns c =
    let p = c.args.checked.now in
    let x = c.args.node.now in
    let b = c.args.base in
    let t = c.args.targets in
    let m = c.args.engine.now in
    let vs = views m.values.items in
    let M = c.store_all-answer.new.machine in
    let r = c.store_all-answer.result in
    let us : views c.above.result.now ≡ drop b vs = c.above.ensures ∙ ap (λ (ws : List code.Value). drop b (views ws)) c.deref-2.ensures.value in
    let zs = replicate t (zero_value (zero_in (rights_of p.types) (type_in (type_of p.types.shapes) c.args.ty))) in
    goes_stored p (works p x b (what.Zero t c.args.ty)) (λ n. stores (take t (parts_of p n x)) (drop b vs) zs) m m c.cut.new.self M (take b vs) r
    (kept_itself m) c.cut.ensures.kept c.cut.ensures.values c.store_all-answer.ensures.turns
    (λ n. subst (λ (ws : List Value). IsWritten (outcome (stores (take t (parts_of p n x)) (drop b vs) ws) m.depth m.machine) r M) c.in_ok-values.ensures
    (subst (λ (ws : List Value). IsWritten (outcome (stores (take t (parts_of p n x)) ws (views c.in_ok-values.values.items)) m.depth m.machine) r M) us
    (subst (λ (ys : List (Option TypedNode)). IsWritten (outcome (stores (take t (doings p n ys)) (views c.above.result.now) (views c.in_ok-values.values.items)) m.depth m.machine) r M) c.deref.ensures.value (c.store_all-answer.ensures.is n m.depth))))
    (λ n s. zeros_stored p n x s vs b t c.args.ty)
