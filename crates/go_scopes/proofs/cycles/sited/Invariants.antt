use Rattle.std.proofs.Common.{◌≡◌, ◌++◌, map, drop}
use Rattle.go_scopes_lookup.specs.Views.{asked_view}
use Rattle.go_scopes_lookup.specs.Sited.{sited}
use Rattle.go_scopes.proofs.cycles.sited.Given as goal

abbrev pub invariant-loop-a : goal.invariant-loop-a
invariant-loop-a l = map asked_view l.out.items ++ sited (map asked_view (drop l.a-index l.lookups)) ≡ sited (map asked_view l.lookups)
