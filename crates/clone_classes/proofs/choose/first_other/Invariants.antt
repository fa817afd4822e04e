use Rattle.std.proofs.Common.{◌≡◌, drop}
use Rattle.clone_classes.specs.Choices.{first_other}
use Rattle.clone_classes.proofs.choose.first_other.Given as goal

abbrev pub invariant-loop-number : goal.invariant-loop-number
invariant-loop-number l = first_other l.count l.numbers ≡ first_other l.count (drop l.number-index l.numbers)
