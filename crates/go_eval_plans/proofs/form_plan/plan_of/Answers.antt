use Rattle.std.proofs.Common.{length, sym, ap, ◌∙◌}
use Rattle.go_types.specs.Tables.{type_of, rights_of}
use Rattle.go_types.specs.Trees.{TypeTree}
use Rattle.go_typed.specs.Trees.{Sort}
use Rattle.go_typed.specs.Views.{all_seen, sort_seen}
use Rattle.go_meaning.specs.Plans.{Once, Loop}
use Rattle.go_meaning.specs.Planning.{sort_type, sort_plan, form_plan}
use Rattle.go_eval_plans.proofs.Seen.{plan_once, plan_loops}
use Rattle.go_eval_plans.proofs.form_plan.plan_of.Goals as goal

pub returns-then-is_for-clause-plan : goal.returns-then-is_for-clause-plan
returns-then-is_for-clause-plan c = λ l e.
    let t = c.args.types.now in
    ap Loop (c.is_there.ensures (type_of t.shapes)) ∙ sym (plan_loops (rights_of t) c.args.form l (all_seen t c.args.parts.now) (sym c.is_for.ensures ∙ c.if-is_for.true))

pub returns-clause-plan : goal.returns-clause-plan
returns-clause-plan c = λ l e.
    let t = c.args.types.now in
    let f = type_of t.shapes in
    let ps = all_seen t c.args.parts.now in
    let s = sort_seen t c.args.sort.now in
    c.of_sort.ensures.plan (rights_of t) f ps (form_plan (rights_of t) c.args.form (sort_type s) ps) (c.form_plan-plan.ensures.plan s ∙ ap (λ u. Once (form_plan (rights_of t) c.args.form u ps)) (c.sort_type.ensures.is f))
    ∙ ap (λ (u : Sort TypeTree). Once (sort_plan u (form_plan (rights_of t) c.args.form (sort_type u) ps))) (sym e)
    ∙ sym (plan_once (rights_of t) c.args.form l ps (sym c.is_for.ensures ∙ c.if-is_for.false))

pub returns-clause-known : goal.returns-clause-known
returns-clause-known c = c.of_sort.ensures.known (length c.args.types.now.shapes) c.form_plan-plan.ensures.known
