use Rattle.std.proofs.Common.{List, length, sym, subst}
use Rattle.go_typed.specs.declared.node.TypedNode.{TypedNode}
use Rattle.go_typed.specs.Packages.{counts}
use Rattle.go_eval.specs.Ends.{IsRan}
use Rattle.go_eval.specs.Runs.{AreKnown, trees_run}
use Rattle.go_eval.proofs.Sequences.{known_nodes}
use Rattle.go_eval.proofs.steps.run_variables.Goals as goal

pub run_trees-requires : goal.run_trees-requires
run_trees-requires c =
    let p = c.args.checked.now in
    subst (AreKnown (length p.types.shapes)) (sym c.variables.ensures) (known_nodes (counts p) (length p.types.shapes) p.variables c.types-types.ensures.stands.known_variables)

pub returns : goal.returns
returns c = subst (λ (xs : List TypedNode). IsRan (trees_run c.args.checked.now xs) c.args.engine.now.machine c.run_trees.result c.run_trees.new.engine.machine) c.variables.ensures c.run_trees.ensures
