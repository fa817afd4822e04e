use Rattle.std.proofs.Common.{◌≡◌, Some, drop, map}
use Rattle.go_scopes_lookup.specs.Views.{asked_view}
use Rattle.go_scopes_cycles.specs.Circles.{walked}
use Rattle.go_scopes_cycles.specs.Views.{needed_view}
use Rattle.go_scopes_cycles.proofs.walk.walked.Given as goal

abbrev pub invariant-loop-name : goal.invariant-loop-name
invariant-loop-name l =
    walked (map asked_view l.lookups) (Some (needed_view l.x)) (drop l.name-index l.names)
    ≡ walked (map asked_view l.lookups) (Some (needed_view l.first)) l.names
