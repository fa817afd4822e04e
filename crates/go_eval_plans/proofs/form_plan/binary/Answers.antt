use Rattle.std.proofs.Common.{length, ap, ◌∙◌}
use Rattle.go_types.specs.Tables.{type_of, rights_of}
use Rattle.go_typed.specs.Views.{all_seen}
use Rattle.go_meaning.specs.Plans.{Once}
use Rattle.go_meaning.specs.Planning.{binary_plan, shape_at}
use Rattle.go_eval_plans.proofs.Grouped.{told, binary_blind}
use Rattle.go_eval_plans.proofs.form_plan.binary.Goals as goal
use Rattle.go_eval_plans.proofs.Known.{plan_known_by, binary_none}
use Rattle.go_eval_plans.specs.Views.{member}
use Rattle.go_eval_plans.specs.Known.{course_has_none}
use Rattle.go_typed.specs.Trees.{Nothing}

pub returns-clause-plan : goal.returns-clause-plan
returns-clause-plan c s =
    let t = c.args.types.now in
    let ps = all_seen t c.args.parts.now in
    c.binary.ensures (rights_of t) (type_of t.shapes) s ps ∙ ap Once (told (binary_plan c.args.operator) (binary_blind c.args.operator) (type_of t.shapes) c.group_at.result (shape_at (rights_of t) ps 0) c.group_at.ensures.group)

pub returns-clause-known : goal.returns-clause-known
returns-clause-known c =
    let t = c.args.types.now in
    let f = type_of t.shapes in
    plan_known_by (length t.shapes) (rights_of t) f Nothing (all_seen t c.args.parts.now) c.binary.result (ap course_has_none (c.binary.ensures (rights_of t) f Nothing (all_seen t c.args.parts.now)) ∙ binary_none c.args.operator (member f c.group_at.result))
