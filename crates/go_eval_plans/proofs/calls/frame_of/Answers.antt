use Rattle.std.proofs.Common.{◌≡◌, ℕ, ◌+◌, suc, List, length, drop, replicate, sym, ap, ◌∙◌, subst, add-one}
use Rattle.std.proofs.lemmas.List.{length-map}
use Rattle.go_meaning.specs.Values as meant
use Rattle.go_meaning.specs.Meaning.{with_arguments}
use Rattle.go_typed.specs.Views.{sort_view}
use Rattle.go_values.specs.Views.{views}
use Rattle.go_eval_plans.specs.Programs.{code_of}
use Rattle.go_eval_plans.proofs.Frames.{one_given, all_given}
use Rattle.go_eval_plans.proofs.calls.frame_of.Goals as goal

pub loop-number-init : goal.loop-number-init
loop-number-init c =
    let count : length c.locals.result.now ≡ length c.args.function.now.locals = sym (length-map c.locals.result.now sort_view) ∙ ap length c.locals.ensures in
    ap (λ (f : List meant.Value). with_arguments c.parameters-parameters.result.now (drop 1 (views c.args.operands.items)) f) (c.in_ok-frame.ensures ∙ ap (λ (k : ℕ). replicate k meant.NilFunction) count)

pub loop-number-preserved : goal.loop-number-preserved
loop-number-preserved c =
    let ps = c.parameters-parameters.result.now in
    let i = c.loop-number.number in
    let us = views c.loop-number.operands.items in
    let fr = views c.loop-number.frame.items in
    let us1 = views c.give.new.operands.items in
    let fr1 = views c.give.new.frame.items in
    let k : i + 1 ≡ suc i = add-one i in
    subst (λ (j : ℕ). with_arguments (drop (i + 1) ps) (drop j us1) fr1 ≡ with_arguments ps (drop 1 (views c.args.operands.items)) (replicate (length c.args.function.now.locals) meant.NilFunction)) (sym (add-one (i + 1)))
    (sym (one_given ps i (i + 1) c.parameter_at-parameter.result us us1 fr fr1 c.parameter_at-parameter.ensures k c.give.ensures) ∙ c.loop-number.invariant)

pub returns : goal.returns
unfolding code_of
returns c = λ t. sym (all_given c.parameters-parameters.result.now c.loop-number.number (drop (c.loop-number.number + 1) (views c.loop-number.operands.items)) (views c.loop-number.frame.items) c.loop-number-test.false) ∙ (c.loop-number.invariant ∙ ap (λ ps. with_arguments ps (drop 1 (views c.args.operands.items)) (replicate (length c.args.function.now.locals) meant.NilFunction)) c.parameters-parameters.ensures)
