use Rattle.std.proofs.Common.{◌≡◌, ◌++◌, ℕ, drop}
use Rattle.go_types.specs.Trees.{TypeTree}
use Rattle.go_typed.specs.Trees.{all_mapped}
use Rattle.go_typed.specs.Views.{views}
use Rattle.go_meaning.specs.Planning.{places_from}
use Rattle.go_eval_operations.proofs.builds.places_of_elements.Given as goal

abbrev pub invariant-loop-next : goal.invariant-loop-next
invariant-loop-next l = (f : ℕ → TypeTree) → l.places.items ++ places_from l.next (all_mapped f (views (drop l.next l.elements))) ≡ places_from 0 (all_mapped f (views l.elements))
