use Rattle.std.proofs.Common.{arith}
use Rattle.go_needs.proofs.owners.note_source.Goals as goal

pub returns-in_ok-insert : goal.returns-in_ok-insert
returns-in_ok-insert c n s = grind (arith, c.in_ok-insert.ensures.updates.0 (n, s), c.in-Some.is)
