use Rattle.std.proofs.Common.{length, ap, ◌∙◌}
use Rattle.go_types.specs.Tables.{type_of, rights_of}
use Rattle.go_typed.specs.Views.{all_seen}
use Rattle.go_meaning.specs.Plans.{Once, Perform}
use Rattle.go_meaning.specs.Planning.{conversion, shape_of, shape_at}
use Rattle.go_eval_plans.specs.Views.{type_in, member}
use Rattle.go_eval_plans.proofs.Grouped.{told, target_blind, operand_blind}
use Rattle.go_eval_plans.proofs.form_plan.conversion.Goals as goal
use Rattle.go_eval_plans.proofs.Known.{known_by, conversion_none}
use Rattle.go_eval_plans.specs.Known.{takes_none}

pub returns-clause-plan : goal.returns-clause-plan
returns-clause-plan c s =
    let t = c.args.types.now in
    let f = type_of t.shapes in
    let ps = all_seen t c.args.parts.now in
    let target = shape_of (rights_of t) (type_in f c.args.ty) in
    ap (λ o. Once (Perform o)) (c.conversion.ensures (rights_of t) f ps
    ∙ told (λ u. conversion u (member f c.group_at.result)) (target_blind (member f c.group_at.result)) f c.group_of.result target c.group_of.ensures.group
    ∙ told (conversion target) (operand_blind target) f c.group_at.result (shape_at (rights_of t) ps 1) c.group_at.ensures.group)

pub returns-clause-known : goal.returns-clause-known
returns-clause-known c =
    let t = c.args.types.now in
    let f = type_of t.shapes in
    known_by (length t.shapes) (rights_of t) f (all_seen t c.args.parts.now) c.conversion.result (ap takes_none (c.conversion.ensures (rights_of t) f (all_seen t c.args.parts.now)) ∙ conversion_none (member f c.group_of.result) (member f c.group_at.result))
