use Rattle.std.proofs.Common.{◌≡◌, ◌++◌, length, map}
use Rattle.go_tree.specs.Declarations.{found_in}
use Rattle.go_scopes_lookup.specs.Views.{found_view}
use Rattle.go_scopes_lookup.proofs.found.push_found.Given as goal

abbrev pub invariant-loop-events : goal.invariant-loop-events
invariant-loop-events l = map found_view l.out.items ++ found_in l.file l.unit.tokens.now l.events ≡ map found_view l.fn.out.items ++ found_in l.file l.unit.tokens.now l.initial.events

abbrev pub decreases-loop-events : goal.decreases-loop-events
decreases-loop-events l = length l.events
