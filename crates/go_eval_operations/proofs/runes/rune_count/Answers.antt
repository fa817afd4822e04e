use Rattle.std.proofs.Common.{arith}
use Rattle.go_eval_operations.proofs.RunePlaces.{rune_told_at, all_counted}
use Rattle.go_eval_operations.proofs.runes.rune_count.Goals as goal

pub loop-place-preserved : goal.loop-place-preserved
loop-place-preserved c =
    let r = c.first_rune-width in
    let l = c.loop-place in
    let s = rune_told_at c.args.bytes.now l.place r.result.0 r.result.1 c.loop-place-test.true r.ensures.code r.ensures.width r.ensures.some r.ensures.within l.count l.invariant.begins in
    record { begins = s.1.0; counted = omega (arith, s.1.1); fewer = omega (arith, l.invariant.fewer, r.ensures.some) }

pub returns : goal.returns
returns c = all_counted c.args.bytes.now c.loop-place.count c.loop-place.place c.loop-place.invariant.begins (omega (arith, c.loop-place-test.false)) c.loop-place.invariant.counted
