use Rattle.std.proofs.Common.{◌≡◌, ◌-◌, map}
use Rattle.go_tree.specs.Needs.{needs_of, with_all, all_needed}
use Rattle.go_scopes_lookup.specs.Views.{asked_view}
use Rattle.go_scopes_cycles.specs.Views.{needed_view}
use Rattle.go_scopes_cycles.proofs.rounds.all_needed.Given as goal

-- The new ones need whatever the next round adds.
abbrev pub invariant-loop-round : goal.invariant-loop-round
invariant-loop-round l = record {
  left : all_needed (map asked_view l.lookups) (l.rounds - l._round) (map needed_view l.all.items)
      ≡ all_needed (map asked_view l.lookups) l.rounds (map needed_view l.start);
  fresh : with_all (needs_of (map asked_view l.lookups) (map needed_view l.all.items)) (map needed_view l.all.items)
      ≡ with_all (needs_of (map asked_view l.lookups) (map needed_view l.fresh.items)) (map needed_view l.all.items);
}
