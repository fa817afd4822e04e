use Rattle.std.proofs.Common.{◌≡◌, ◌≤◌, ◌+◌, length, arith}
use Rattle.clone_window.specs.Bodies.{same_in}
use Rattle.window_index.proofs.Joining.{count-there, joined-there, kept-there}
use Rattle.window_index.proofs.Tables.{weaker-err, weaker-ok}
use Rattle.window_index.proofs.index.join_at.Goals as goal

pub returns-clause-ok : goal.returns-clause-ok
returns-clause-ok g c =
    let p = c.pair_mut-groups.result in
    weaker-ok c.join.result (λ e. joined-there (same_in c.args.checked.now) c.args.window c.args.number c.args.buckets.now.entries (p.0.now, p.1.now) c.join.new.self c.pair_mut-groups.ensures.value e) c.join.ensures.ok

pub returns-clause-err : goal.returns-clause-err
returns-clause-err g c =
    let p = c.pair_mut-groups.result in
    weaker-err c.join.result (λ e. kept-there c.args.number c.args.buckets.now.entries (p.0.now, p.1.now) c.join.new.self c.pair_mut-groups.ensures.value e) c.join.ensures.err

pub returns-clause-compared : goal.returns-clause-compared
returns-clause-compared g c =
    let p = c.pair_mut-groups.result in
    omega (arith, c.join.ensures.compared, count-there c.args.number c.args.buckets.now.entries (p.0.now, p.1.now) c.pair_mut-groups.ensures.value)
