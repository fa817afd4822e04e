use Rattle.std.proofs.Common.{◌≡◌, length, map}
use Rattle.go_tree.specs.Predeclared.{known_in}
use Rattle.go_scopes_events.proofs.predeclared.known_in.Given as goal

abbrev pub invariant-loop-table : goal.invariant-loop-table
invariant-loop-table l = known_in (map (λ k. (k.0.now, k.1)) l.table) l.name ≡ known_in (map (λ k. (k.0.now, k.1)) l.initial.table) l.name

abbrev pub decreases-loop-table : goal.decreases-loop-table
decreases-loop-table l = length l.table
