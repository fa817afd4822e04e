use Rattle.std.proofs.Common.{◌∙◌}
use Rattle.go_eval_plans.proofs.Seen.{there_by}
use Rattle.go_eval_plans.proofs.parts.is_there.Goals as goal

pub returns : goal.returns
returns c f = c.is_some.ensures ∙ there_by f c.args.parts.now c.args.number (λ x. x.now) c.part.result c.part.ensures
