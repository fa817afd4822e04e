use Rattle.std.proofs.Common.{◌≡◌, length}
use Rattle.go_tokens.specs.Literals.{grouped}
use Rattle.go_tokens.proofs.literal.is_grouped.Given as goal

abbrev pub invariant-loop-rest : goal.invariant-loop-rest
invariant-loop-rest l = grouped l.base l.rest ≡ grouped l.base l.digits

abbrev pub decreases-loop-rest : goal.decreases-loop-rest
decreases-loop-rest l = length l.rest
