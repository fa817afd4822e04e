use Rattle.std.proofs.Common.{◌≡◌, ℕ, ◌<◌, ◌≤◌, false}
use Rattle.std.specs.Prelude.{nat_eq}
use Rattle.std.specs.HashSet as set
use Rattle.escape_check.proofs.keeping.spares.Given as goal

abbrev pub invariant-loop-token : goal.invariant-loop-token
invariant-loop-token l = (t : ℕ) → l.from ≤ t → t < l.token-counter → set.contains nat_eq l.noted t ≡ false
