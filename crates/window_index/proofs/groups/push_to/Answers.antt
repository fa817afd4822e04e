use Rattle.window_index.proofs.Tables.{always, set-one, set-same}
use Rattle.window_index.proofs.groups.push_to.Goals as goal

pub returns-clause-ok : goal.returns-clause-ok
returns-clause-ok c = set-one c.args.groups.now.items c.args.number c.index_mut.result.now c.push.new.self c.args.window c.requires c.index_mut.ensures.value c.in_ok-push.ensures.items

pub returns-in_err-push-clause-err : goal.returns-in_err-push-clause-err
returns-in_err-push-clause-err c = always c.from_residual.result (set-same c.args.groups.now.items c.args.number c.index_mut.result.now c.push.new.self c.requires c.index_mut.ensures.value c.in_err-push.ensures.items)
