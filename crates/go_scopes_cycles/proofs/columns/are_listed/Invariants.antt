use Rattle.std.proofs.Common.{◌≡◌, drop, map}
use Rattle.go_scopes_lookup.specs.Views.{asked_view}
use Rattle.go_scopes_cycles.specs.Columns.{are_listed}
use Rattle.go_scopes_cycles.proofs.columns.are_listed.Given as goal

abbrev pub invariant-loop-a : goal.invariant-loop-a
invariant-loop-a l = are_listed l.columns (map asked_view (drop l.a-index l.lookups)) ≡ are_listed l.columns (map asked_view l.lookups)
