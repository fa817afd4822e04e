use Rattle.std.proofs.Common.{◌≡◌, List, ap, ◌∙◌, drop, subst}
use Rattle.go_meaning.specs.Values as meant
use Rattle.go_meaning.specs.Computations.{World}
use Rattle.go_meaning.specs.Operations.{perform}
use Rattle.go_values.specs.declared.value.Value.{Value}
use Rattle.go_values.specs.Deeds.{deed}
use Rattle.go_values.specs.Views.{views}
use Rattle.go_eval_machine.specs.Tasks.{deed_view}
use Rattle.go_eval_machine.proofs.engine.Engine.perform.Goals as goal

pub returns-in-Some : goal.returns-in-Some
returns-in-Some c =
    let p = c.args.checked.now in
    let x = c.args.node.now in
    let b = c.args.base in
    let us : views c.above.result.now ≡ drop b (views c.args.self.now.values.items) = c.above.ensures ∙ ap (λ (ws : List Value). drop b (views ws)) c.deref.ensures.value in
    c.replace.ensures p x c.args.deed (subst (λ (ws : List meant.Value). (w : World) → perform (deed_view p x c.args.deed) ws w ≡ deed w c.in-Some.answer) us (c.in-Some.ensures p x))
