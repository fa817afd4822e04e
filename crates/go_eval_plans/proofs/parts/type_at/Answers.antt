use Rattle.std.proofs.Common.{◌<◌, ◌∙◌}
use Rattle.go_eval_plans.proofs.Seen.{type_some, type_none, known_some}
use Rattle.go_eval_plans.proofs.parts.type_at.Goals as goal

pub returns-in-Some-clause-is : goal.returns-in-Some-clause-is
returns-in-Some-clause-is c f = c.sort_type.ensures.is f ∙ type_some f c.args.parts.now c.args.number c.in-Some.node.now c.in-Some.ensures

pub returns-in-Some-clause-known : goal.returns-in-Some-clause-known
returns-in-Some-clause-known c n h = c.sort_type.ensures.known n (known_some (λ t. t < n) c.args.parts.now c.args.number c.in-Some.node.now c.in-Some.ensures h)

pub returns-in-None-clause-is : goal.returns-in-None-clause-is
returns-in-None-clause-is c f = type_none f c.args.parts.now c.args.number c.in-None.ensures
