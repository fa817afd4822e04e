use Rattle.std.proofs.Common.{drop, map}
use Rattle.go_scopes_lookup.specs.Views.{found_view}
use Rattle.go_needs.specs.Objects.{KnowsOwners}
use Rattle.go_needs.proofs.objects.owned_of.Given as goal

abbrev pub invariant-loop-number : goal.invariant-loop-number
invariant-loop-number l = KnowsOwners l.owned (map found_view (drop l.number l.found))
