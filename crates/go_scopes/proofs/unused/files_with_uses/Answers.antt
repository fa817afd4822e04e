use Rattle.std.proofs.Common.{arith}
use Rattle.std.proofs.lemmas.Grind.{common_steps}
use Rattle.go_scopes.proofs.unused.files_with_uses.Goals as goal

pub loop-a-preserved : goal.loop-a-preserved
loop-a-preserved c n = let added = c.in_ok-note_import.ensures n in grind (arith, common_steps, added, c.loop-a.invariant n)
