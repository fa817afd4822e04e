use Rattle.std.proofs.Common.{ℕ, ◌<◌, ◌-◌, Some, length}
use Rattle.go_typed.specs.Trees.{Sort, SortHas}
use Rattle.examples.proofs.Rows.{Below}
use Rattle.examples.proofs.known.locals_known.Given as goal

abbrev pub invariant-loop-number : goal.invariant-loop-number
invariant-loop-number l = Below {B = Sort ℕ} l.locals.sorts (λ x. Some x) (SortHas (λ t. t < length l.types.shapes)) l.number

abbrev pub decreases-loop-number : goal.decreases-loop-number
decreases-loop-number l = length l.locals.sorts - l.number
