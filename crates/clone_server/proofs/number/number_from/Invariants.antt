use Rattle.std.proofs.Common.{◌≡◌, length}
use Rattle.clone_server.specs.Numbers.{number_from}
use Rattle.clone_server.proofs.number.number_from.Given as goal

abbrev pub invariant-loop-rest : goal.invariant-loop-rest
invariant-loop-rest l = number_from l.fn.most l.value l.rest ≡ number_from l.fn.most l.fn.number l.fn.bytes

abbrev pub decreases-loop-rest : goal.decreases-loop-rest
decreases-loop-rest l = length l.rest
