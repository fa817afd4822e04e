use Rattle.std.proofs.Common.{◌≡◌, length}
use Rattle.clone_script.specs.Commands.{keyword_of}
use Rattle.clone_script.proofs.command.keyword_of.Given as goal

abbrev pub invariant-loop-left : goal.invariant-loop-left
invariant-loop-left l = keyword_of l.left l.fn.bytes ≡ keyword_of l.fn.keywords l.fn.bytes

abbrev pub decreases-loop-left : goal.decreases-loop-left
decreases-loop-left l = length l.left
