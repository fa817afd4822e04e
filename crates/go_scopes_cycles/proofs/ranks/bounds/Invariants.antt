use Rattle.std.proofs.Common.{drop, map}
use Rattle.go_scopes_cycles.specs.Ranks.{CoversAll}
use Rattle.go_scopes_lookup.specs.Views.{asked_view}
use Rattle.go_scopes_cycles.proofs.ranks.bounds.Given as goal

abbrev pub invariant-loop-number : goal.invariant-loop-number
invariant-loop-number l = CoversAll l.bounds l.ranks (map asked_view (drop l.number l.lookups))
