use Rattle.go_eval_plans.proofs.Seen.{calls_some, calls_none}
use Rattle.go_eval_plans.proofs.parts.calls_at.Goals as goal

pub returns-in-Some : goal.returns-in-Some
returns-in-Some c f = calls_some f c.args.parts.now c.args.number c.in-Some.node.now c.in-Some.ensures

pub returns-in-None : goal.returns-in-None
returns-in-None c f = calls_none f c.args.parts.now c.args.number c.in-None.ensures
