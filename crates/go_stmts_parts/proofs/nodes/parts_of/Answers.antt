use Rattle.std.proofs.Common.{map, ap, ◌∙◌, subst, sym, ◌<◌}
use Rattle.std.specs.Option.{option_map}
use Rattle.go_typed.specs.Funcs.{size, sizes}
use Rattle.go_typed.specs.Views.{seen, view, views}
use Rattle.go_stmts_parts.proofs.Loops.{listed_parts, parts_smaller}
use Rattle.go_stmts_parts.proofs.nodes.parts_of.Goals as goal

pub returns-clause-parts : goal.returns-clause-parts
returns-clause-parts c = ap (map (option_map (seen c.args.types.now))) c.deref.ensures.value ∙ listed_parts c.args.types.now c.args.node.now

pub returns-clause-smaller : goal.returns-clause-smaller
returns-clause-smaller c = subst (λ ns. sizes (views ns) < size (view c.args.node.now)) (sym c.deref.ensures.value) (parts_smaller c.args.node.now)
