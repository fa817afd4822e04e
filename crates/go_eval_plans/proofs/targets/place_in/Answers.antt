use Rattle.std.proofs.Common.{◌≡◌, ℕ, ap, ◌∙◌, subst}
use Rattle.std.proofs.lemmas.Result.{err_from_is_err_and}
use Rattle.go_meaning.specs.Values as meant
use Rattle.go_meaning.specs.Values.{nth}
use Rattle.go_meaning.specs.Operations.{Deed, Traps, at_index}
use Rattle.go_values.specs.Views.{views, panic_view}
use Rattle.go_eval_plans.specs.declared.exit.Exit.TheVariants as exit
use Rattle.go_eval_plans.proofs.Reaching.{index_place, index_panic}
use Rattle.go_eval_plans.proofs.targets.place_in.Goals as goal

pub returns-in_err-place_of : goal.returns-in_err-place_of
returns-in_err-place_of c =
    let q = err_from_is_err_and c.from_residual.result c.from_residual.ensures.1 in
    let i = nth (views c.args.operands.now) 0 in
    let p = c.in_err-place_of.field-0.0 in
    let h = index_panic c.args.length i p (subst (λ (j : meant.Value). (then : ℕ → Deed) → at_index c.args.length j then ≡ Traps (panic_view p)) c.operand.ensures c.in_err-place_of.ensures.place) in
    rw q.1 ((h.0, q.2 ∙ ap exit.Panic h.1))

pub returns : goal.returns
returns c =
    let i = nth (views c.args.operands.now) 0 in
    let k = c.in_ok-place_of.field-0 in
    index_place c.args.length i k (subst (λ (j : meant.Value). (then : ℕ → Deed) → at_index c.args.length j then ≡ then k) c.operand.ensures c.in_ok-place_of.ensures.place)
