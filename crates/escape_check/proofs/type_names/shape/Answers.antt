use Rattle.go_types_relations.proofs.Public.{shape_tree}
use Rattle.escape_check.proofs.type_names.shape.Goals as goal

pub returns-clause-tree : goal.returns-clause-tree
returns-clause-tree c = shape_tree c.args.types.now c.count.ensures.table c.args.of c.shape.result.now c.shape.ensures
