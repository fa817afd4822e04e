use Rattle.std.proofs.Common.{Some, sym, ap, ◌∙◌}
use Rattle.go_types.specs.Tables.{type_of, rights_of}
use Rattle.go_types_relations.proofs.Underlyings.{underlying_told}
use Rattle.go_types_relations.proofs.Calls.{defined_or_open, open_told}
use Rattle.go_types_relations.proofs.Booleans.{holds, fails}
use Rattle.go_types_relations.proofs.underlying.Goals as goal

pub underlying-requires-clause-defined : goal.underlying-requires-clause-defined
underlying-requires-clause-defined c = defined_or_open c.args.types.now c.count.ensures.table c.args.a (fails c.is_open.result c.is_open.ensures c.if-is_open.false)

pub returns-then-is_open-clause-tree : goal.returns-then-is_open-clause-tree
returns-then-is_open-clause-tree c = sym (open_told c.args.types.now c.count.ensures.table c.args.a (holds c.is_open.result c.is_open.ensures c.if-is_open.true))

pub returns-else-is_open-clause-tree : goal.returns-else-is_open-clause-tree
returns-else-is_open-clause-tree c =
    let t = c.args.types.now in
    ap Some (sym c.shape.ensures.tree) ∙ sym (underlying_told (rights_of t) (type_of t.shapes c.args.a) (type_of t.shapes c.underlying.result) c.underlying.ensures.underlying)
