use Rattle.std.proofs.Common.{◌≡◌, length}
use Rattle.clone_script.specs.Reading.{literal_at}
use Rattle.clone_script.proofs.command.behind.Given as goal

abbrev pub invariant-loop-left : goal.invariant-loop-left
invariant-loop-left l = literal_at l.left l.rest ≡ literal_at l.fn.word l.fn.bytes

abbrev pub decreases-loop-left : goal.decreases-loop-left
decreases-loop-left l = length l.left
