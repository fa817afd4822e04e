use Rattle.std.proofs.Common.{◌≡◌, ◌*◌, ◌+◌, drop, length, map}
use Rattle.std.specs.List.{list_any}
use Rattle.std.specs.Option.{option_map}
use Rattle.go_typed.specs.Funcs.{size, sizes}
use Rattle.go_typed.specs.Views.{seen, view, views, AllKnown}
use Rattle.go_stmts_defs.specs.Ending.{part_breaks}
use Rattle.go_stmts_parts.proofs.endings.+breaks.Given as goal

-- the measure of a node is twice its size, and that of parts one more than twice theirs
abbrev pub decreases-breaks : goal.decreases-breaks
decreases-breaks l = 2 * size (view l.node.now)

abbrev pub decreases-any_breaks : goal.decreases-any_breaks
decreases-any_breaks l = 2 * sizes (views l.parts.now) + 1

abbrev pub invariant-any_breaks-loop-part : goal.invariant-any_breaks-loop-part
invariant-any_breaks-loop-part l = record {
  known : AllKnown (length l.types.shapes) (drop l.part-index l.parts);
  found : list_any part_breaks (map (option_map (seen l.types)) (drop l.part-index l.parts)) ≡ list_any part_breaks (map (option_map (seen l.types)) l.parts);
}
