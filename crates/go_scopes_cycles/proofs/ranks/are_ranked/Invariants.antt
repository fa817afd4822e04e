use Rattle.std.proofs.Common.{◌≡◌, drop, map}
use Rattle.go_scopes_cycles.specs.Ranks.{are_ranked}
use Rattle.go_scopes_lookup.specs.Views.{asked_view}
use Rattle.go_scopes_cycles.proofs.ranks.are_ranked.Given as goal

abbrev pub invariant-loop-a : goal.invariant-loop-a
invariant-loop-a l = are_ranked l.bounds l.ranks (map asked_view (drop l.a-index l.lookups)) ≡ are_ranked l.bounds l.ranks (map asked_view l.lookups)
