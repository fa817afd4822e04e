use Rattle.std.proofs.Common.{length, ap, ◌∙◌}
use Rattle.go_types.specs.Tables.{type_of, rights_of}
use Rattle.go_typed.specs.Views.{all_seen}
use Rattle.go_meaning.specs.Plans.{Once, StepBy}
use Rattle.go_meaning.specs.Planning.{step_operation, shape_at}
use Rattle.go_eval_plans.proofs.Grouped.{told, step_blind}
use Rattle.go_eval_plans.proofs.form_plan.step.Goals as goal
use Rattle.go_eval_plans.proofs.Known.{known_by, step_none}
use Rattle.go_eval_plans.specs.Views.{member}
use Rattle.go_eval_plans.specs.Known.{takes_none}

pub returns-clause-plan : goal.returns-clause-plan
returns-clause-plan c s =
    let t = c.args.types.now in
    let ps = all_seen t c.args.parts.now in
    ap (λ o. Once (StepBy o)) (c.step_operation.ensures (rights_of t) (type_of t.shapes) ps ∙ told (step_operation c.args.step) (step_blind c.args.step) (type_of t.shapes) c.group_at.result (shape_at (rights_of t) ps 0) c.group_at.ensures.group)

pub returns-clause-known : goal.returns-clause-known
returns-clause-known c =
    let t = c.args.types.now in
    let f = type_of t.shapes in
    known_by (length t.shapes) (rights_of t) f (all_seen t c.args.parts.now) c.step_operation.result (ap takes_none (c.step_operation.ensures (rights_of t) f (all_seen t c.args.parts.now)) ∙ step_none c.args.step (member f c.group_at.result))
