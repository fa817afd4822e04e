use Rattle.std.proofs.Common.{◌≡◌, ◌++◌, map, drop}
use Rattle.go_tree.specs.Lookups.{asked_from}
use Rattle.go_tree.specs.Objects.{objects_from}
use Rattle.go_scopes_lookup.specs.Views.{units_view, asked_view}
use Rattle.go_scopes_lookup.specs.Sorted.{all_of}
use Rattle.go_scopes_lookup.proofs.look_up.looked_up_in_files.Given as goal

abbrev pub invariant-loop-number : goal.invariant-loop-number
invariant-loop-number l = record {
  asked : map asked_view l.asked.items ++ asked_from (all_of l.sorted) l.number (units_view (drop l.number l.units)) ≡ asked_from (all_of l.sorted) 0 (units_view l.units);
  objects : map (λ v. v.items) l.objects.items ++ objects_from (all_of l.sorted) l.number (units_view (drop l.number l.units)) ≡ objects_from (all_of l.sorted) 0 (units_view l.units);
}
