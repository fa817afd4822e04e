use Rattle.std.proofs.Common.{inl, inr, ◌∙◌}
use Rattle.go_types_relations.proofs.Calls.{same_assignable, defined_or_open, open_assignable}
use Rattle.go_types_relations.proofs.Booleans.{holds, fails}
use Rattle.go_types_relations.proofs.assignable.Goals as goal

pub assignable-requires-clause-from_defined : goal.assignable-requires-clause-from_defined
assignable-requires-clause-from_defined c = defined_or_open c.args.types.now c.count.ensures.table c.args.from (fails c.is_open.result c.is_open.ensures c.if-is_open.false)

pub assignable-requires-clause-to_defined : goal.assignable-requires-clause-to_defined
assignable-requires-clause-to_defined c = defined_or_open c.args.types.now c.count.ensures.table c.args.to (fails c.is_open-2.result c.is_open-2.ensures c.if-is_open-2.false)

pub returns-then-is_open : goal.returns-then-is_open
returns-then-is_open c = c.identical.ensures ∙ open_assignable c.args.types.now c.count.ensures.table c.args.from c.args.to (inl (holds c.is_open.result c.is_open.ensures c.if-is_open.true))

pub returns-then-is_open-2 : goal.returns-then-is_open-2
returns-then-is_open-2 c = c.identical-then-is_open-2.ensures ∙ open_assignable c.args.types.now c.count.ensures.table c.args.from c.args.to (inr (holds c.is_open-2.result c.is_open-2.ensures c.if-is_open-2.true))

pub returns : goal.returns
returns c = same_assignable c.args.types.now c.args.from c.args.to c.assignable.result c.assignable.ensures
