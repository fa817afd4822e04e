use Rattle.std.proofs.Common.{◌≡◌, arith}
use Rattle.std.specs.Prelude.{count_by}
use Rattle.go_types.specs.Waiting.{is_stale}
use Rattle.go_types.proofs.Awakening.{no_stale_one}
use Rattle.go_types.proofs.waking.next_stale.Goals as goal

pub returns-then-progress-eq0-clause-none : goal.returns-then-progress-eq0-clause-none
returns-then-progress-eq0-clause-none c i o e =
    let few = c.requires.few in
    let zero_left = c.if-progress-eq0.true in
    let none : count_by (is_stale c.args.verdicts.now) c.args.waits.now ≡ 0 = omega arith in
    no_stale_one c.args.verdicts.now c.args.waits.now none i o e
