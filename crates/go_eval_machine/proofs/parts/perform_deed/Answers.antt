use Rattle.std.proofs.Common.{◌≡◌, List, [], ◌∷◌, sym, ap, ◌∙◌, subst, Err}
use Rattle.std.proofs.lemmas.Result.{err_from_is_err_and}
use Rattle.go_meaning.specs.Values as meant
use Rattle.go_meaning.specs.Values.{nth}
use Rattle.go_meaning.specs.Operations.{Cell, Deed, Element, Field, Gives, perform}
use Rattle.go_values.specs.declared.value.Value.{Value}
use Rattle.go_values.specs.Deeds.{IsDone}
use Rattle.go_values.specs.Views.{view, views}
use Rattle.go_values.specs.Worlds.{world_view}
use Rattle.go_eval_operations.specs.Performing.{IsPerformed}
use Rattle.go_eval_machine.specs.declared.task.Deed as code
use Rattle.go_eval_machine.specs.Tasks.{deed_view}
use Rattle.go_eval_machine.proofs.Performing.{stopped}
use Rattle.go_eval_machine.proofs.parts.perform_deed.Goals as goal

pub returns-in_ok-value-in-Field : goal.returns-in_ok-value-in-Field
returns-in_ok-value-in-Field c =
    let w = world_view c.args.world.now in
    let us = views c.args.operands.items in
    let v = view c.in_ok-value-in-Field.value in
    let k = c.in-Field.number in
    let first = c.operand.ensures ∙ ap (λ (vs : List Value). nth (views vs) 0) c.deref.ensures.value in
    ap (λ (q : code.Deed). perform (deed_view c.args.checked.now c.args.node.now q) us w) c.in-Field.is
    ∙ subst (λ (i : meant.Value). perform (Field k) (i ∷ []) w ≡ Gives (v ∷ []) w) first (c.in_ok-value-in-Field.ensures w)

pub returns-in_ok-value-in-Element : goal.returns-in_ok-value-in-Element
returns-in_ok-value-in-Element c =
    let w = world_view c.args.world.now in
    let us = views c.args.operands.items in
    let v = view c.in_ok-value-in-Element.value in
    let k = c.in-Element.length in
    let first = c.operand-array.ensures ∙ ap (λ (vs : List Value). nth (views vs) 0) c.deref-in-Element.ensures.value in
    let second = c.operand-in-Element.ensures ∙ ap (λ (vs : List Value). nth (views vs) 1) c.deref-in-Element-2.ensures.value in
    ap (λ (q : code.Deed). perform (deed_view c.args.checked.now c.args.node.now q) us w) c.in-Element.is
    ∙ subst (λ (i : meant.Value). perform (Element k) (nth us 0 ∷ i ∷ []) w ≡ Gives (v ∷ []) w) second
    (subst (λ (i : meant.Value). perform (Element k) (i ∷ view c.operand-in-Element.result.now ∷ []) w ≡ Gives (v ∷ []) w) first (c.in_ok-value-in-Element.ensures w))

pub returns-in_err-value-in-Element : goal.returns-in_err-value-in-Element
returns-in_err-value-in-Element c =
    let w = world_view c.args.world.now in
    let us = views c.args.operands.items in
    let k = c.in-Element.length in
    let s = c.in_err-value-in-Element.field-0.0 in
    let q = err_from_is_err_and c.from_residual-in_err-value-in-Element.result c.from_residual-in_err-value-in-Element.ensures.1 in
    let first = c.operand-array.ensures ∙ ap (λ (vs : List Value). nth (views vs) 0) c.deref-in-Element.ensures.value in
    let second = c.operand-in-Element.ensures ∙ ap (λ (vs : List Value). nth (views vs) 1) c.deref-in-Element-2.ensures.value in
    let done : IsDone (Err s) w (perform (Element k) us w) = subst (λ (i : meant.Value). IsDone (Err s) w (perform (Element k) (nth us 0 ∷ i ∷ []) w)) second
    (subst (λ (i : meant.Value). IsDone (Err s) w (perform (Element k) (i ∷ view c.operand-in-Element.result.now ∷ []) w)) first (c.in_err-value-in-Element.ensures w)) in
    rw (q.1, q.2) (subst (λ (d : code.Deed). IsPerformed (Err s) (perform (deed_view c.args.checked.now c.args.node.now d) us w) w w) (sym c.in-Element.is) (stopped s (perform (Element k) us w) w done))

pub returns-in_ok-value-in-Cell : goal.returns-in_ok-value-in-Cell
returns-in_ok-value-in-Cell c =
    let w = world_view c.args.world.now in
    let us = views c.args.operands.items in
    let v = view c.in_ok-value-in-Cell.value in
    let first = c.operand-slice.ensures ∙ ap (λ (vs : List Value). nth (views vs) 0) c.deref-in-Cell.ensures.value in
    let second = c.operand-in-Cell.ensures ∙ ap (λ (vs : List Value). nth (views vs) 1) c.deref-in-Cell-2.ensures.value in
    ap (λ (q : code.Deed). perform (deed_view c.args.checked.now c.args.node.now q) us w) c.in-Cell.is
    ∙ subst (λ (i : meant.Value). perform Cell (nth us 0 ∷ i ∷ []) w ≡ Gives (v ∷ []) w) second
    (subst (λ (i : meant.Value). perform Cell (i ∷ view c.operand-in-Cell.result.now ∷ []) w ≡ Gives (v ∷ []) w) first c.in_ok-value-in-Cell.ensures)

pub returns-in_err-value-in-Cell : goal.returns-in_err-value-in-Cell
returns-in_err-value-in-Cell c =
    let w = world_view c.args.world.now in
    let us = views c.args.operands.items in
    let s = c.in_err-value-in-Cell.field-0.0 in
    let q = err_from_is_err_and c.from_residual-in_err-value-in-Cell.result c.from_residual-in_err-value-in-Cell.ensures.1 in
    let first = c.operand-slice.ensures ∙ ap (λ (vs : List Value). nth (views vs) 0) c.deref-in-Cell.ensures.value in
    let second = c.operand-in-Cell.ensures ∙ ap (λ (vs : List Value). nth (views vs) 1) c.deref-in-Cell-2.ensures.value in
    let done : IsDone (Err s) w (perform Cell us w) = subst (λ (i : meant.Value). IsDone (Err s) w (perform Cell (nth us 0 ∷ i ∷ []) w)) second
    (subst (λ (i : meant.Value). IsDone (Err s) w (perform Cell (i ∷ view c.operand-in-Cell.result.now ∷ []) w)) first c.in_err-value-in-Cell.ensures) in
    rw (q.1, q.2) (subst (λ (d : code.Deed). IsPerformed (Err s) (perform (deed_view c.args.checked.now c.args.node.now d) us w) w w) (sym c.in-Cell.is) (stopped s (perform Cell us w) w done))
