use Rattle.std.proofs.Common.{arith}
use Rattle.std.proofs.lemmas.Grind.{common_steps}
use Rattle.go_scopes.proofs.unused.used_spots.Goals as goal

pub loop-a-preserved : goal.loop-a-preserved
loop-a-preserved c d = let added = c.in_ok-note_use.ensures d in grind (arith, common_steps, added, c.loop-a.invariant d)
