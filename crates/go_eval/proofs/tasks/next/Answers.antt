use Rattle.go_eval.proofs.tasks.next.Goals as goal

pub returns-in-Ok : goal.returns-in-Ok
returns-in-Ok c = rw c.in-Ok.is c.dispatch.ensures

pub returns-in-Err : goal.returns-in-Err
returns-in-Err c = rw c.in-Err.is (c.out.ensures c.args.checked.now c.requires)
