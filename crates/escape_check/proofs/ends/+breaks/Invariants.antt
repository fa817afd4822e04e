use Rattle.std.proofs.Common.{◌≡◌, ◌*◌, ◌+◌, drop, map}
use Rattle.std.specs.List.{list_any}
use Rattle.std.specs.Option.{option_map}
use Rattle.go_typed.specs.Funcs.{size, sizes}
use Rattle.go_typed.specs.Views.{seen, view, views}
use Rattle.go_stmts_defs.specs.Ending.{part_breaks}
use Rattle.escape_check.specs.Called.{all_called, staying}
use Rattle.escape_check.proofs.ends.+breaks.Given as goal

-- the measure of a node is twice its size, and that of parts one more than twice theirs
abbrev pub decreases-breaks : goal.decreases-breaks
decreases-breaks l = 2 * size (view l.node.now)

abbrev pub decreases-any_breaks : goal.decreases-any_breaks
decreases-any_breaks l = 2 * sizes (views l.parts.now) + 1

abbrev pub decreases-list_breaks : goal.decreases-list_breaks
decreases-list_breaks l = 2 * sizes (views l.parts.now) + 1

abbrev pub invariant-any_breaks-loop-part : goal.invariant-any_breaks-loop-part
invariant-any_breaks-loop-part l =
    list_any part_breaks (all_called l.gap (map (option_map (seen l.types)) l.parts)) ≡ list_any part_breaks (all_called l.gap (map (option_map (seen l.types)) (drop l.part-index l.parts)))

abbrev pub invariant-list_breaks-loop-part : goal.invariant-list_breaks-loop-part
invariant-list_breaks-loop-part l =
    list_any part_breaks (all_called l.gap (staying l.gap 0 (map (option_map (seen l.types)) l.parts)))
    ≡ list_any part_breaks (all_called l.gap (staying l.gap l.next (map (option_map (seen l.types)) (drop l.part-index l.parts))))
