use Rattle.std.proofs.Common.{◌≡◌, ◌≤◌, ◌<◌, ℕ, []}
use Rattle.go_typed.specs.Packages.{PackageView}
use Rattle.go_meaning.specs.Computations.{give}
use Rattle.go_meaning.specs.Doings.{at}
use Rattle.go_eval_machine.specs.Tasks.{parts_of}
use Rattle.go_eval_machine.proofs.ready.first_sought.Given as goal

abbrev pub invariant-loop-number : goal.invariant-loop-number
invariant-loop-number l = (p : PackageView) (n k : ℕ) → l.next ≤ k → k < l.number → (at (parts_of p n l.node) k).find ≡ give []
