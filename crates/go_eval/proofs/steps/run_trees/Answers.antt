use Rattle.std.proofs.Common.{◌≤◌, ◌+◌, length, drop, subst, arith}
use Rattle.std.proofs.Math.ListN.{drop_of_length-le}
use Rattle.std.proofs.lemmas.Result.{err_from_is_err_and}
use Rattle.go_eval.specs.Runs.{AreKnown}
use Rattle.go_eval.proofs.Sequences.{all_left, at_front, one_less, one_left, none_left}
use Rattle.go_eval.proofs.steps.run_trees.Goals as goal

pub loop-node-init : goal.loop-node-init
loop-node-init c = record { left = all_left c.args.checked.now c.args.nodes.now c.args.engine.now.machine; known = c.requires }

pub run_tree-requires : goal.run_tree-requires
run_tree-requires c =
    let xs = c.args.nodes.now in
    let front = at_front xs c.loop-node.node-index c.node-item.result c.loop-node-test.true c.node-item.is in
    (subst (AreKnown (length c.args.checked.now.types.shapes)) front c.loop-node.invariant.known).0

pub loop-node-preserved : goal.loop-node-preserved
loop-node-preserved c =
    let p = c.args.checked.now in
    let xs = c.args.nodes.now in
    let i = c.loop-node.node-index in
    let x = c.node-item.result in
    let front = at_front xs i x c.loop-node-test.true c.node-item.is in
    record {
      left = one_less p xs c.args.engine.now.machine (drop (i + 1) xs) (drop i xs) x front c.loop-node.engine.machine c.run_tree.new.engine.machine c.loop-node.invariant.left tt c.in_ok-run_tree.ensures;
      known = (subst (AreKnown (length p.types.shapes)) front c.loop-node.invariant.known).1;
    }

pub returns : goal.returns
returns c =
    let xs = c.args.nodes.now in
    let i = c.loop-node.node-index in
    let behind : length xs ≤ i = omega (arith, c.loop-node-test.false) in
    none_left c.args.checked.now xs c.args.engine.now.machine (drop i xs) c.loop-node.engine.machine (drop_of_length-le xs behind) c.loop-node.invariant.left

pub returns-in_err-run_tree : goal.returns-in_err-run_tree
returns-in_err-run_tree c =
    let p = c.args.checked.now in
    let xs = c.args.nodes.now in
    let i = c.loop-node.node-index in
    let x = c.node-item.result in
    let front = at_front xs i x c.loop-node-test.true c.node-item.is in
    let q = err_from_is_err_and c.from_residual.result c.from_residual.ensures.1 in
    rw (q.1, q.2) (one_left p xs c.args.engine.now.machine (drop (i + 1) xs) (drop i xs) x front c.loop-node.engine.machine c.run_tree.new.engine.machine c.loop-node.invariant.left c.in_err-run_tree.field-0.0 c.in_err-run_tree.ensures)
