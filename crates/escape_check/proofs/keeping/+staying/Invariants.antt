use Rattle.std.proofs.Common.{◌*◌, ◌+◌, drop, map}
use Rattle.std.specs.Option.{option_map}
use Rattle.go_typed.specs.Funcs.{size, sizes}
use Rattle.go_typed.specs.Views.{seen, view, views}
use Rattle.escape_check.specs.declared.ends.Gap.{Gap as Found}
use Rattle.escape_check.proofs.Sparing.{NoneBreaks}
use Rattle.escape_check.proofs.keeping.+staying.Given as goal

-- the measure of a node is twice its size, and that of parts one more than twice theirs
abbrev pub decreases-never_breaks : goal.decreases-never_breaks
decreases-never_breaks l = 2 * size (view l.node.now)

abbrev pub decreases-none_breaks : goal.decreases-none_breaks
decreases-none_breaks l = 2 * sizes (views l.parts.now) + 1

abbrev pub invariant-none_breaks-loop-part : goal.invariant-none_breaks-loop-part
invariant-none_breaks-loop-part l = (g : Found) → NoneBreaks g (map (option_map (seen l.types)) (drop l.part-index l.parts)) → NoneBreaks g (map (option_map (seen l.types)) l.parts)
