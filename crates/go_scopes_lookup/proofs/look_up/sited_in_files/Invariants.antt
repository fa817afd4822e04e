use Rattle.std.proofs.Common.{◌≡◌, ◌++◌, map, drop}
use Rattle.go_tree.specs.Lookups.{asked_from}
use Rattle.go_scopes_lookup.specs.Views.{units_view, asked_view}
use Rattle.go_scopes_lookup.specs.Sited.{sited}
use Rattle.go_scopes_lookup.specs.Sorted.{all_of}
use Rattle.go_scopes_lookup.proofs.look_up.sited_in_files.Given as goal

abbrev pub invariant-loop-number : goal.invariant-loop-number
invariant-loop-number l = map asked_view l.asked.items ++ sited (asked_from (all_of l.sorted) l.number (units_view (drop l.number l.units))) ≡ sited (asked_from (all_of l.sorted) 0 (units_view l.units))
