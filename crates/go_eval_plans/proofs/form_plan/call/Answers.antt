use Rattle.std.proofs.Common.{ap, ◌∙◌}
use Rattle.go_types.specs.Tables.{type_of, rights_of}
use Rattle.go_typed.specs.Views.{all_seen}
use Rattle.go_meaning.specs.Plans.{Once}
use Rattle.go_meaning.specs.Planning.{call_plan}
use Rattle.go_eval_plans.proofs.Seen.{sort_some, sort_none}
use Rattle.go_eval_plans.proofs.form_plan.call.Goals as goal

pub returns-in-Some-clause-plan : goal.returns-in-Some-clause-plan
returns-in-Some-clause-plan c s =
    let t = c.args.types.now in
    c.call_of.ensures.plan s ∙ ap (λ x. Once (call_plan (rights_of t) x (all_seen t c.args.parts.now))) (sort_some (type_of t.shapes) c.args.parts.now 0 c.in-Some.callee.now c.in-Some.ensures)

pub returns-in-None-clause-plan : goal.returns-in-None-clause-plan
returns-in-None-clause-plan c s =
    let t = c.args.types.now in
    ap (λ x. Once (call_plan (rights_of t) x (all_seen t c.args.parts.now))) (sort_none (type_of t.shapes) c.args.parts.now 0 c.in-None.ensures)
