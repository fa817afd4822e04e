use Rattle.std.proofs.Common.{sym, ap}
use Rattle.go_types_relations.proofs.Public.{defined_or_open, open_told, holds, fails}
use Rattle.go_exprs_rules.specs.Indexes.{field_number}
use Rattle.go_exprs_types.proofs.FieldPlacing.{kept_number, kept_within}
use Rattle.go_exprs_types.proofs.fields.place_of.Goals as goal

pub underlying-requires-clause-defined : goal.underlying-requires-clause-defined
underlying-requires-clause-defined c = defined_or_open c.args.types.now c.count.ensures.table c.args.of (fails c.is_open.result c.is_open.ensures c.if-is_open.false)

pub returns-then-is_open-clause-number : goal.returns-then-is_open-clause-number
returns-then-is_open-clause-number c = sym (ap (λ o. field_number o c.args.name.now) (open_told c.args.types.now c.count.ensures.table c.args.of (holds c.is_open.result c.is_open.ensures c.if-is_open.true)))

pub returns-else-is_open-clause-number : goal.returns-else-is_open-clause-number
returns-else-is_open-clause-number c =
    kept_number c.args.types.now c.count.ensures.table c.args.of c.underlying.result c.underlying.ensures.within c.underlying.ensures.underlying c.args.name.now c.field_place.result c.field_place.ensures.place

pub returns-else-is_open-clause-within : goal.returns-else-is_open-clause-within
returns-else-is_open-clause-within c =
    kept_within c.args.types.now c.count.ensures.table c.args.of c.underlying.result c.underlying.ensures.within c.underlying.ensures.underlying c.args.name.now c.field_place.result c.field_place.ensures.place
