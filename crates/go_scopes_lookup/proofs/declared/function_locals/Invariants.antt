use Rattle.std.proofs.Common.{◌≡◌, ◌++◌, map, length}
use Rattle.go_tree.specs.Uses.{function_locals}
use Rattle.go_scopes_lookup.specs.Views.{found_view}
use Rattle.go_scopes_lookup.proofs.declared.function_locals.Given as goal

abbrev pub invariant-loop-left : goal.invariant-loop-left
invariant-loop-left l = map (λ v. v.items) l.out.items ++ function_locals (map found_view l.left) ≡ function_locals (map found_view l.declared)

abbrev pub decreases-loop-left : goal.decreases-loop-left
decreases-loop-left l = length l.left
