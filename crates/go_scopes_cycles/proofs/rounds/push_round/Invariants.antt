use Rattle.std.proofs.Common.{◌≡◌, map, drop}
use Rattle.go_tree.specs.Needs.{needs_of, with_all}
use Rattle.go_scopes_lookup.specs.Views.{asked_view}
use Rattle.go_scopes_cycles.specs.Views.{needed_view}
use Rattle.go_scopes_cycles.proofs.rounds.push_round.Given as goal

abbrev pub invariant-loop-x : goal.invariant-loop-x
invariant-loop-x l =
    with_all (needs_of (map asked_view l.lookups) (map needed_view (drop l.x-index l.from))) (map needed_view l.out.items)
    ≡ with_all (needs_of (map asked_view l.lookups) (map needed_view l.from)) (map needed_view l.fn.out.items)
