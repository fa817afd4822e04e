use Rattle.std.proofs.Common.{◌≡◌, ◌<◌, ◌++◌, All, length, drop, map}
use Rattle.go_types.specs.Tables.{rights_of}
use Rattle.go_typed.specs.Views.{AllKnown, all_seen}
use Rattle.go_stmts_parts.specs.Late.{all_late_arrays, late_seen}
use Rattle.go_stmts_parts.proofs.late.+push_late.Given as goal

abbrev pub decreases-push_late : goal.decreases-push_late
decreases-push_late l = goal.size-push_late l

abbrev pub invariant-loop-part : goal.invariant-loop-part
invariant-loop-part l = record {
  left : AllKnown (length l.types.shapes) (drop l.part-index l.part-items);
  known : All (λ a. a.of < length l.types.shapes) l.found.items;
  found : map (late_seen l.types) l.found.items ++ all_late_arrays (rights_of l.types) (all_seen l.types (drop l.part-index l.part-items)) ≡ map (late_seen l.types) l.fn.found.items ++ all_late_arrays (rights_of l.types) (all_seen l.types l.part-items);
}
