use Rattle.std.proofs.Common.{arith}
use Rattle.extract_texts.proofs.Loops.{named_all}
use Rattle.extract_texts.proofs.header.push_holes.Goals as goal

pub returns : goal.returns
returns c =
    named_all c.args.checked.now c.args.names.now c.args.holes.now c.loop-hole.hole-index c.loop-hole.parameters.items _ (omega (arith, c.loop-hole-test.false)) c.loop-hole.invariant.texts
