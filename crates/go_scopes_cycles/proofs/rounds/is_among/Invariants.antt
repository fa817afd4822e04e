use Rattle.std.proofs.Common.{◌≡◌, map, drop}
use Rattle.go_tree.specs.Needs.{is_among}
use Rattle.go_scopes_lookup.specs.Views.{found_view}
use Rattle.go_scopes_cycles.specs.Views.{needed_view}
use Rattle.go_scopes_cycles.proofs.rounds.is_among.Given as goal

abbrev pub invariant-loop-x : goal.invariant-loop-x
invariant-loop-x l = is_among (found_view l.d) (map needed_view l.all) ≡ is_among (found_view l.d) (map needed_view (drop l.x-index l.all))
