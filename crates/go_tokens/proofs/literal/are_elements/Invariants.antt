use Rattle.std.proofs.Common.{◌≡◌, ◌≤◌, ◌-◌, length, drop, is_some}
use Rattle.go_tokens.specs.Literals.{elements}
use Rattle.go_tokens.proofs.literal.are_elements.Given as goal

abbrev pub invariant-loop-at : goal.invariant-loop-at
invariant-loop-at l = record { within : l.at ≤ length l.text; so_far : is_some (elements 34 0 (drop l.at l.text)) ≡ is_some (elements 34 0 l.text) }

abbrev pub decreases-loop-at : goal.decreases-loop-at
decreases-loop-at l = length l.text - l.at
