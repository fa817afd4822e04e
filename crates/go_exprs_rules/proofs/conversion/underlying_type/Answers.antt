use Rattle.std.proofs.Common.{sym}
use Rattle.go_types.specs.Tables.{type_of, rights_of}
use Rattle.go_types_relations.proofs.Public.{underlying_told, defined_or_open, open_told, holds, fails}
use Rattle.go_exprs_rules.proofs.conversion.underlying_type.Goals as goal

pub underlying-requires-clause-defined : goal.underlying-requires-clause-defined
underlying-requires-clause-defined c = defined_or_open c.args.types.now c.count.ensures.table c.args.of (fails c.is_open.result c.is_open.ensures c.if-is_open.false)

pub returns-then-is_open-clause-tree : goal.returns-then-is_open-clause-tree
returns-then-is_open-clause-tree c = sym (open_told c.args.types.now c.count.ensures.table c.args.of (holds c.is_open.result c.is_open.ensures c.if-is_open.true))

pub returns-else-is_open-clause-tree : goal.returns-else-is_open-clause-tree
returns-else-is_open-clause-tree c =
    let t = c.args.types.now in
    sym (underlying_told (rights_of t) (type_of t.shapes c.args.of) (type_of t.shapes c.underlying.result) c.underlying.ensures.underlying)
