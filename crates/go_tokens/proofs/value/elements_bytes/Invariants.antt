use Rattle.std.proofs.Common.{◌≡◌, ◌≤◌, ◌-◌, ◌++◌, length, drop}
use Rattle.std.specs.Option.{option_map}
use Rattle.go_tokens.specs.Literals.{elements, elements_bytes}
use Rattle.go_tokens.proofs.value.elements_bytes.Given as goal

abbrev pub invariant-loop-at : goal.invariant-loop-at
invariant-loop-at l = record { within : l.at ≤ length l.text; so_far : option_map (λ es. l.bytes.items ++ elements_bytes es) (elements 34 0 (drop l.at l.text)) ≡ option_map elements_bytes (elements 34 0 l.text) }

abbrev pub decreases-loop-at : goal.decreases-loop-at
decreases-loop-at l = length l.initial.text - l.at
