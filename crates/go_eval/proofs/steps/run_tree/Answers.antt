use Rattle.std.proofs.Common.{length}
use Rattle.go_eval.proofs.Running.{Rested, rested_fits, tree_ran}
use Rattle.go_eval.proofs.steps.run_tree.Goals as goal

pub run_tasks-requires-clause-fit : goal.run_tasks-requires-clause-fit
run_tasks-requires-clause-fit c =
    let p = c.args.checked.now in
    let old = c.args.engine.now.machine in
    let m = c.reset.new.engine in
    let z : Rested old m = record { tasks = c.reset.ensures.tasks; values = c.reset.ensures.values; machine = c.reset.ensures.machine; depth = c.reset.ensures.depth } in
    c.in_ok-push.ensures.fits (length p.types.shapes) (c.requires, tt) (rested_fits p old m z (length p.types.shapes))

pub returns : goal.returns
returns c =
    let p = c.args.checked.now in
    let old = c.args.engine.now.machine in
    let m = c.reset.new.engine in
    let z : Rested old m = record { tasks = c.reset.ensures.tasks; values = c.reset.ensures.values; machine = c.reset.ensures.machine; depth = c.reset.ensures.depth } in
    tree_ran p old m z c.args.node.now c.push.new.self c.run_tasks.new.engine c.run_tasks.result c.in_ok-push.ensures c.run_tasks.ensures
