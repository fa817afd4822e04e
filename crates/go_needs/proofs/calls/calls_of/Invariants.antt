use Rattle.std.proofs.Common.{◌≡◌, ◌++◌, drop, map}
use Rattle.go_scopes_lookup.specs.Views.{asked_view}
use Rattle.go_needs.specs.Calls.{calls_of, fits}
use Rattle.go_needs.proofs.calls.calls_of.Given as goal

abbrev pub invariant-loop-a : goal.invariant-loop-a
invariant-loop-a l = record {
  calls : l.calls.items ++ calls_of l.uses l.all (map asked_view (drop l.a-index l.lookups)) ≡ calls_of l.uses l.all (map asked_view l.lookups);
  fits : fits l.uses l.owners l.all (map asked_view (drop l.a-index l.lookups)) ≡ fits l.uses l.owners l.all (map asked_view l.lookups);
}
