use Rattle.std.proofs.Common.{◌≡◌, drop}
use Rattle.go_package_stages.specs.Numbers.{at_most}
use Rattle.go_package_stages.proofs.numbers.are_at_most.Given as goal

abbrev pub invariant-loop-number : goal.invariant-loop-number
invariant-loop-number l = at_most l.most (drop l.number-index l.numbers) ≡ at_most l.most l.numbers
