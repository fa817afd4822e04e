use Rattle.std.proofs.Common.{◌≡◌, ◌≤◌, ◌+◌, ℕ, drop, length}
use Rattle.go_types.specs.Trees.{TypeTree}
use Rattle.go_typed.specs.Trees.{all_mapped}
use Rattle.go_typed.specs.Views.{views}
use Rattle.go_meaning.specs.Planning as planning
use Rattle.go_eval_plans.proofs.parts.default_at.Given as goal

-- No default clause stands before the place.
abbrev pub invariant-loop-place : goal.invariant-loop-place
invariant-loop-place l = ((f : ℕ → TypeTree) → planning.default_at (all_mapped f (views l.parts)) ≡ l.place + planning.default_at (all_mapped f (views (drop l.place l.parts)))) × (l.place ≤ length l.parts)
