use Rattle.std.proofs.Common.{◌≡◌, ◌++◌, drop}
use Rattle.go_needs.specs.Blocked.{flags_from}
use Rattle.go_needs.proofs.blocked.flags.Given as goal

abbrev pub invariant-loop-number : goal.invariant-loop-number
invariant-loop-number l = l.flags.items ++ flags_from l.numbers l.number (drop l.number l.owners) ≡ flags_from l.numbers 0 l.owners
