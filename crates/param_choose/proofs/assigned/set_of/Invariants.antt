use Rattle.std.proofs.Common.{◌≡◌, ℕ, ◌||◌, nat_eq, drop}
use Rattle.std.specs.HashSet as set
use Rattle.param_choose.specs.Locals.{has}
use Rattle.param_choose.proofs.assigned.set_of.Given as goal

abbrev pub invariant-loop-number : goal.invariant-loop-number
invariant-loop-number l = (n : ℕ) → (set.contains nat_eq l.set n || has (drop l.number-index l.numbers) n) ≡ has l.numbers n
