use Rattle.go_types_relations.proofs.Calls.{shape_tree, shape_parts}
use Rattle.go_types_relations.proofs.shape.Goals as goal

pub returns-clause-tree : goal.returns-clause-tree
returns-clause-tree c = shape_tree c.args.types.now c.count.ensures.table c.args.a c.shape.result.now c.shape.ensures

pub returns-clause-parts : goal.returns-clause-parts
returns-clause-parts c = shape_parts c.args.types.now c.count.ensures.table c.args.a c.shape.result.now c.shape.ensures
