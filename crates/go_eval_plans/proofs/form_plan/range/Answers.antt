use Rattle.std.proofs.Common.{ap, ◌∙◌}
use Rattle.std.specs.Prelude.{nat_lt}
use Rattle.go_types.specs.Tables.{type_of, rights_of}
use Rattle.go_typed.specs.Views.{all_seen}
use Rattle.go_meaning.specs.Plans.{Once, Iterate}
use Rattle.go_meaning.specs.Planning.{shape_at, at_most_one, items_of}
use Rattle.go_eval_plans.proofs.Grouped.{told, items_blind}
use Rattle.go_eval_plans.proofs.Seen.{at_most_one_is}
use Rattle.go_eval_plans.proofs.form_plan.range.Goals as goal

pub returns-clause-plan : goal.returns-clause-plan
returns-clause-plan c s =
    let t = c.args.types.now in
    let f = type_of t.shapes in
    let ps = all_seen t c.args.parts.now in
    let n = c.args.targets in
    let u = shape_at (rights_of t) ps n in
    ap (λ i. Once (Iterate n i)) (c.items-items.ensures f
    ∙ told (items_of (nat_lt n 2) c.calls_at.result) (items_blind (nat_lt n 2) c.calls_at.result) f c.group_at.result u c.group_at.ensures.group
    ∙ ap (λ b. items_of b c.calls_at.result u) (at_most_one_is n)
    ∙ ap (λ b. items_of (at_most_one n) b u) (c.calls_at.ensures f))
