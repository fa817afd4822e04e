use Rattle.std.proofs.Common.{drop, map}
use Rattle.go_scopes_lookup.specs.Views.{meaning_view}
use Rattle.go_scopes_lookup.specs.Sorted.{KnowsOuter}
use Rattle.go_scopes_lookup.proofs.sorted.outer_names.Given as goal

abbrev pub invariant-loop-number : goal.invariant-loop-number
invariant-loop-number l = KnowsOuter l.outer (map meaning_view (drop l.number l.all))
