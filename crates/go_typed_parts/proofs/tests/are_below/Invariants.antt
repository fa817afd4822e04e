use Rattle.std.proofs.Common.{◌≡◌, drop}
use Rattle.go_typed.specs.Funcs.{are_below}
use Rattle.go_typed_parts.proofs.tests.are_below.Given as goal

abbrev pub invariant-loop-number : goal.invariant-loop-number
invariant-loop-number l = are_below l.count (drop l.number-index l.numbers) ≡ are_below l.count l.numbers
