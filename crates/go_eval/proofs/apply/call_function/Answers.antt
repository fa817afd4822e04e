use Rattle.std.proofs.Common.{◌≡◌, List, Some, drop, true, false, refl, sym, ap, ◌∙◌, subst, arith, Err}
use Rattle.std.proofs.lemmas.Result.{err_from_is_err_and}
use Rattle.go_meaning.specs.Operations.{ReadByte}
use Rattle.go_values.specs.Views.{views}
use Rattle.go_eval_plans.specs.declared.exit.Exit.{Exit}
use Rattle.go_eval_machine.specs.Engines.{Goes, operates}
use Rattle.go_eval_machine.proofs.Public.{goes_spent, goes_unspent, kept_itself}
use Rattle.go_eval.specs.Called.{calls_it, enters}
use Rattle.go_eval.proofs.Calling.{not_called, body_called, byte_called}
use Rattle.go_eval.proofs.apply.call_function.Goals as goal

pub returns-then-has_body-clause-goes : goal.returns-then-has_body-clause-goes
returns-then-has_body-clause-goes c = λ p h.
    let m = c.args.engine.now in
    let m2 = record m { machine = c.spend.new.self } in
    let us = drop 1 (views c.args.operands.items) in
    let F = c.args.function.now in
    goes_spent p (calls_it p (Some F) us) (enters p F us) m m m2 c.enter.result c.enter.new.engine (views m.values.items) (kept_itself m) refl refl refl refl c.in_ok-spend.ensures (c.enter.ensures.goes p h)
    (λ n s. body_called p n s (views m.values.items) F us (sym (c.has_body.ensures p.types) ∙ c.if-has_body.true))

pub returns-clause-goes : goal.returns-clause-goes
returns-clause-goes c = λ p h.
    let m = c.args.engine.now in
    let m2 = record m { machine = c.spend.new.self } in
    let us = drop 1 (views c.args.operands.items) in
    let F = c.args.function.now in
    goes_spent p (calls_it p (Some F) us) (operates ReadByte) m m m2 c.read_byte.result c.read_byte.new.engine (views m.values.items) (kept_itself m) refl refl refl refl c.in_ok-spend.ensures (c.read_byte.ensures p)
    (λ n s. byte_called p n s (views m.values.items) F us (sym (c.has_body.ensures p.types) ∙ c.if-has_body.false))

pub returns-in_err-spend-clause-goes : goal.returns-in_err-spend-clause-goes
returns-in_err-spend-clause-goes c = λ p h.
    let m = c.args.engine.now in
    let m2 = record m { machine = c.spend.new.self } in
    let us = drop 1 (views c.args.operands.items) in
    let F = c.args.function.now in
    let q = err_from_is_err_and c.from_residual.result c.from_residual.ensures.1 in
    rw (q.1, q.2) (subst (λ (e : Exit). Goes {X = Unit {0}} p (calls_it p (Some F) us) m (Err e) m2) (sym c.in_err-spend.ensures.0)
    (goes_unspent p (calls_it p (Some F) us) m m m2 (kept_itself m) refl refl c.in_err-spend.ensures.1 c.in_err-spend.ensures.2 (λ n s. not_called p n s (views m.values.items) F us)))

pub returns-then-has_body-clause-spent : goal.returns-then-has_body-clause-spent
returns-then-has_body-clause-spent c = λ z. absurd (omega (arith, z, c.in_ok-spend.ensures.2))

pub returns-clause-spent : goal.returns-clause-spent
returns-clause-spent c = λ z. absurd (omega (arith, z, c.in_ok-spend.ensures.2))

pub returns-in_err-spend-clause-spent : goal.returns-in_err-spend-clause-spent
returns-in_err-spend-clause-spent c = λ z.
    let q = err_from_is_err_and c.from_residual.result c.from_residual.ensures.1 in
    q.1 ∙ ap Err (q.2 ∙ c.in_err-spend.ensures.0)

pub returns-then-has_body-clause-deep : goal.returns-then-has_body-clause-deep
returns-then-has_body-clause-deep c = λ t h z. c.enter.ensures.deep z

pub returns-clause-deep : goal.returns-clause-deep
returns-clause-deep c = λ t h z. let no : false ≡ true = sym c.if-has_body.false ∙ (c.has_body.ensures t ∙ h) in cc

pub returns-in_err-spend-clause-deep : goal.returns-in_err-spend-clause-deep
returns-in_err-spend-clause-deep c = λ t h z.
    let q = err_from_is_err_and c.from_residual.result c.from_residual.ensures.1 in
    q.1 ∙ ap Err (q.2 ∙ c.in_err-spend.ensures.0)
