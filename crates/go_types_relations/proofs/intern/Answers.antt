use Rattle.go_types_relations.proofs.Interning.{interns_grow, interns_within, interns_tree}
use Rattle.go_types_relations.proofs.intern.Goals as goal

pub returns-clause-grows : goal.returns-clause-grows
returns-clause-grows c = interns_grow c.args.types.now c.intern-interned.new.self c.count.ensures.table c.count-2.ensures.table c.args.shape.now c.intern-interned.result c.intern-interned.ensures.answer c.intern-interned.ensures.err

pub returns-clause-within : goal.returns-clause-within
returns-clause-within c = interns_within c.args.types.now c.intern-interned.new.self c.count.ensures.table c.count-2.ensures.table c.args.shape.now c.intern-interned.result c.intern-interned.ensures.answer

pub returns-clause-tree : goal.returns-clause-tree
returns-clause-tree c = interns_tree c.args.types.now c.intern-interned.new.self c.count.ensures.table c.count-2.ensures.table c.args.shape.now c.requires.parts c.intern-interned.result c.intern-interned.ensures.answer
