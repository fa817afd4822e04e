use Rattle.std.proofs.Common.{false, ◌∙◌}
use Rattle.go_types_relations.proofs.Calls.{same_comparable}
use Rattle.go_types_relations.proofs.Settled.{comparable_settled}
use Rattle.go_types_relations.proofs.Booleans.{fails}
use Rattle.go_types_relations.proofs.comparable.Goals as goal

pub returns-then-is_settled : goal.returns-then-is_settled
returns-then-is_settled c = same_comparable c.args.types.now c.args.a c.comparable.result c.comparable.ensures

pub returns-else-is_settled : goal.returns-else-is_settled
returns-else-is_settled c = c.if-is_settled.false ∙ same_comparable c.args.types.now c.args.a false (λ h. cc, λ h. absurd (fails c.is_settled.result c.is_settled.ensures c.if-is_settled.false (comparable_settled c.args.types.now c.count.ensures.table c.args.a h)))
