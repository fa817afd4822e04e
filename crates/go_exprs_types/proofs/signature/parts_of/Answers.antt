use Rattle.std.proofs.Common.{ap, ◌∙◌}
use Rattle.go_exprs_types.proofs.EntryTypes.{parts_seen, listed_parts}
use Rattle.go_exprs_types.proofs.signature.parts_of.Goals as goal

pub returns-clause-tree : goal.returns-clause-tree
returns-clause-tree c = ap (parts_seen c.args.types.now) c.deref.ensures.value ∙ listed_parts c.args.types.now c.args.node.now
