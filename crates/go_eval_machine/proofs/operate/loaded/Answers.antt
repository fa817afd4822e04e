use Rattle.std.proofs.Common.{◌≡◌, List, Option, drop, refl, ap, ◌∙◌, subst}
use Rattle.go_typed.specs.declared.node.TypedNode.{TypedNode}
use Rattle.go_meaning.specs.Values.{Value}
use Rattle.go_meaning.specs.Doings.{at}
use Rattle.go_values.specs.declared.value.Value as code
use Rattle.go_values.specs.Views.{view, views}
use Rattle.go_eval_plans.specs.Machines.{outcome, Reads, IsLeft}
use Rattle.go_eval_plans.specs.Programs.{doings}
use Rattle.go_eval_machine.specs.Tasks.{parts_of}
use Rattle.go_eval_machine.proofs.operate.loaded.Goals as goal

pub returns-in-Ok : goal.returns-in-Ok
returns-in-Ok c =
    let p = c.args.checked.now in
    let x = c.args.node.now in
    let m = c.args.engine.now in
    let b = c.args.base in
    let v = view c.in-Ok.value in
    let us : views c.above-operands.result.now ≡ drop b (views m.values.items) = c.above-operands.ensures ∙ ap (λ (ws : List code.Value). drop b (views ws)) c.deref.ensures.value in (
      refl,
      λ n. subst (λ (zs : List Value). Reads ((at (parts_of p n x) 0).load zs) m.depth m.machine v) us
          (subst (λ (ys : List (Option TypedNode)). Reads ((at (doings p n ys) 0).load (views c.above-operands.result.now)) m.depth m.machine v) c.deref-2.ensures.value (c.in-Ok.ensures n m.depth)),
    )

pub returns-in-Err : goal.returns-in-Err
returns-in-Err c =
    let p = c.args.checked.now in
    let x = c.args.node.now in
    let m = c.args.engine.now in
    let b = c.args.base in
    let e = c.in-Err.exit in
    let us : views c.above-operands.result.now ≡ drop b (views m.values.items) = c.above-operands.ensures ∙ ap (λ (ws : List code.Value). drop b (views ws)) c.deref.ensures.value in (
      c.cut.ensures.kept,
      (
        c.cut.ensures.values,
        λ n. subst (λ (zs : List Value). IsLeft e m.machine (outcome ((at (parts_of p n x) 0).load zs) m.depth m.machine)) us
            (subst (λ (ys : List (Option TypedNode)). IsLeft e m.machine (outcome ((at (doings p n ys) 0).load (views c.above-operands.result.now)) m.depth m.machine)) c.deref-2.ensures.value (c.in-Err.ensures n m.depth)),
      ),
    )
