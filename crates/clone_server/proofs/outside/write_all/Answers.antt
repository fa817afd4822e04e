use Rattle.std.proofs.Common.{◌≡◌, ◌<◌, ◌-◌, ◌∙◌, length, take, drop, refl, arith}
use Rattle.std.proofs.lemmas.Grind.{common_steps}
use Rattle.std.proofs.lemmas.List.{take_rest}
use Rattle.std.proofs.lemmas.Result.{err_from_is_err_and}
use Rattle.clone_server.proofs.Written.{leaves_all, leaves_less, leaves_none, leaves_some}
use Rattle.clone_server.proofs.outside.write_all.Goals as goal

pub loop-rest-init : goal.loop-rest-init
loop-rest-init g c = record { count = refl; told = λ before is. leaves_all before c.args.bytes.now (g.K.Sink.written c.args.out.now) is }

pub loop-rest-preserved : goal.loop-rest-preserved
loop-rest-preserved g c = record {
  count = c.in_ok-n.ensures.count ∙ c.loop-rest.invariant.count;
  told = λ before is. leaves_less before c.args.bytes.now c.loop-rest.rest.now (take (length c.loop-rest.rest.now - c.in_ok-n.n) (drop c.in_ok-n.n c.loop-rest.rest.now))
      (g.K.Sink.written c.loop-rest.out) (g.K.Sink.written c.write.new.self) c.in_ok-n.n (c.loop-rest.invariant.told before is) c.in_ok-n.ensures.appended
      (take_rest c.loop-rest.rest.now c.in_ok-n.n);
}

pub returns-in_err-n-clause-told : goal.returns-in_err-n-clause-told
returns-in_err-n-clause-told g c before is =
    let some : 0 < length c.loop-rest.rest.now = grind (arith, common_steps) in
    let p = err_from_is_err_and c.from_residual.result c.from_residual.ensures.1 in
    rw (p.1) (leaves_some before c.args.bytes.now c.loop-rest.rest.now (g.K.Sink.written c.loop-rest.out) (g.K.Sink.written c.write.new.self) (c.loop-rest.invariant.told before is) c.in_err-n.ensures.kept some)

pub returns-clause-told : goal.returns-clause-told
returns-clause-told g c before is =
    let none : length c.loop-rest.rest.now ≡ 0 = grind (arith, common_steps) in
    leaves_none before c.args.bytes.now c.loop-rest.rest.now (g.K.Sink.written c.loop-rest.out) (c.loop-rest.invariant.told before is) none
