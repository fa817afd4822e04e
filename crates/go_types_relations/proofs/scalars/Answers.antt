use Rattle.go_types_relations.proofs.Booleans.{fails}
use Rattle.go_types_relations.proofs.Calls.{counted, uncounted}
use Rattle.go_types_relations.proofs.scalars.Goals as goal

pub returns-then-is_settled : goal.returns-then-is_settled
returns-then-is_settled c = counted c.args.types.now c.args.a c.scalars.result c.scalars.ensures.one c.scalars.ensures.count

pub returns-else-is_settled : goal.returns-else-is_settled
returns-else-is_settled c = uncounted c.args.types.now c.count.ensures.table c.args.a (fails c.is_settled.result c.is_settled.ensures c.if-is_settled.false)
