use Rattle.std.proofs.Common.{◌≡◌, ◌≤◌, drop}
use Rattle.go_package_stages.specs.Numbers.{types_told}
use Rattle.go_package_stages.proofs.numbers.are_types_told.Given as goal

abbrev pub invariant-loop-number : goal.invariant-loop-number
invariant-loop-number l = (l.place ≤ l.number) × (types_told l.numbers l.number l.place (drop l.number l.objects) ≡ types_told l.numbers 0 0 l.objects)
