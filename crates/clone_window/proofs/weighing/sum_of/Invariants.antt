use Rattle.std.proofs.Common.{◌≡◌, take}
use Rattle.std.specs.Prelude.{sum}
use Rattle.clone_window.specs.Caps.{capped}
use Rattle.clone_window.proofs.weighing.sum_of.Given as goal

abbrev pub invariant-loop-number : goal.invariant-loop-number
invariant-loop-number l = l.sum ≡ capped (sum (take l.number-index l.numbers))
