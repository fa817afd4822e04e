use Rattle.std.proofs.Common.{◌≡◌, length}
use Rattle.clone_script.specs.Reading.{number_from}
use Rattle.clone_script.proofs.number.number_from.Given as goal

abbrev pub invariant-loop-rest : goal.invariant-loop-rest
invariant-loop-rest l = number_from l.fn.limit l.fn.end l.value l.rest ≡ number_from l.fn.limit l.fn.end l.fn.number l.fn.bytes

abbrev pub decreases-loop-rest : goal.decreases-loop-rest
decreases-loop-rest l = length l.rest
