use Rattle.std.proofs.Common.{◌≡◌, map, drop}
use Rattle.go_tree.specs.Needs.{is_known}
use Rattle.go_scopes_cycles.specs.Views.{needed_view}
use Rattle.go_scopes_cycles.proofs.rounds.is_known.Given as goal

abbrev pub invariant-loop-other : goal.invariant-loop-other
invariant-loop-other l = is_known (needed_view l.x) (map needed_view l.all) ≡ is_known (needed_view l.x) (map needed_view (drop l.other-index l.all))
