use Rattle.std.proofs.Common.{◌≡◌, ◌∙◌, ℕ, List, None, Some, Err, drop, sym, ap}
use Rattle.go_meaning.specs.Values.{Value, Function, nth}
use Rattle.go_values.specs.Views.{views}
use Rattle.go_eval_machine.specs.Tasks.{first_above}
use Rattle.go_eval.specs.Called.{function_in}
use Rattle.go_eval.proofs.Calling.{goes_to_nothing, no_number}
use Rattle.go_eval.proofs.apply.apply.Goals as goal

pub returns-in-Ok-clause-goes : goal.returns-in-Ok-clause-goes
returns-in-Ok-clause-goes c =
    let b = c.args.base in
    let us = views c.above.result.now in
    let behind : us ≡ drop b (views c.args.engine.now.values.items) = c.above.ensures ∙ ap (λ ws. drop b (views ws)) c.deref.ensures.value in
    c.apply_function.ensures c.args.node.now (ap (λ (ws : List Value). nth ws 0) (sym behind) ∙ c.in-Ok.ensures)

pub returns-in-Ok-clause-nil : goal.returns-in-Ok-clause-nil
returns-in-Ok-clause-nil c = λ h.
    let b = c.args.base in
    let us = views c.above.result.now in
    let behind : us ≡ drop b (views c.args.engine.now.values.items) = c.above.ensures ∙ ap (λ ws. drop b (views ws)) c.deref.ensures.value in
    absurd (no_number (first_above b (views c.args.engine.now.values.items)) c.in-Ok.number (ap (λ (ws : List Value). nth ws 0) (sym behind) ∙ c.in-Ok.ensures) h)

pub returns-in-Err-clause-goes : goal.returns-in-Err-clause-goes
returns-in-Err-clause-goes c =
    let b = c.args.base in
    let us = views c.above.result.now in
    let behind : us ≡ drop b (views c.args.engine.now.values.items) = c.above.ensures ∙ ap (λ ws. drop b (views ws)) c.deref.ensures.value in
    goes_to_nothing c.args.checked.now c.args.node.now b c.args.engine.now c.cut.new.self us c.in-Err.exit behind c.cut.ensures.values c.cut.ensures.kept c.in-Err.ensures

pub returns-in-Err-clause-nil : goal.returns-in-Err-clause-nil
returns-in-Err-clause-nil c = λ h. ap Err c.in-Err.ensures.0
