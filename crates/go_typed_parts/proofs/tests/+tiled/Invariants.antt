use Rattle.std.proofs.Common.{◌≡◌, ◌+◌, ◌*◌, drop}
use Rattle.go_typed.specs.Funcs.{are_tiled, size, sizes}
use Rattle.go_typed.specs.Views.{view, views}
use Rattle.go_typed_parts.proofs.tests.+tiled.Given as goal

-- a node's measure is twice its size, and that of parts twice theirs and one
abbrev pub decreases-is_tiled : goal.decreases-is_tiled
decreases-is_tiled l = 2 * size (view l.node.now)

abbrev pub decreases-are_tiled : goal.decreases-are_tiled
decreases-are_tiled l = 2 * sizes (views l.parts.now) + 1

abbrev pub invariant-are_tiled-loop-part : goal.invariant-are_tiled-loop-part
invariant-are_tiled-loop-part l = are_tiled l.at l.last (views (drop l.part-index l.parts)) ≡ are_tiled l.first l.last (views l.parts)
