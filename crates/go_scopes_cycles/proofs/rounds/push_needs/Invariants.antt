use Rattle.std.proofs.Common.{◌≡◌, map, drop}
use Rattle.go_tree.specs.Needs.{needs, with_all}
use Rattle.go_scopes_lookup.specs.Views.{asked_view}
use Rattle.go_scopes_cycles.specs.Views.{needed_view}
use Rattle.go_scopes_cycles.proofs.rounds.push_needs.Given as goal

abbrev pub invariant-loop-a : goal.invariant-loop-a
invariant-loop-a l =
    with_all (needs (map asked_view (drop l.a-index l.lookups)) (needed_view l.x)) (map needed_view l.out.items)
    ≡ with_all (needs (map asked_view l.lookups) (needed_view l.x)) (map needed_view l.fn.out.items)
