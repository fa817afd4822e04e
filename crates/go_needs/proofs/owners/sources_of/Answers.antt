use Rattle.std.proofs.Common.{arith}
use Rattle.std.proofs.lemmas.Grind.{common_steps}
use Rattle.go_needs.proofs.owners.sources_of.Goals as goal

pub loop-o-preserved : goal.loop-o-preserved
loop-o-preserved c n s = let added = c.in_ok-note_source.ensures n s in grind (arith, common_steps, added, c.loop-o.invariant n s)
