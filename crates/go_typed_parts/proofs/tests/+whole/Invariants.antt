use Rattle.std.proofs.Common.{◌≡◌, ◌+◌, ◌*◌, drop}
use Rattle.go_typed.specs.Funcs.{are_whole, size, sizes}
use Rattle.go_typed.specs.Views.{view, views}
use Rattle.go_typed_parts.proofs.tests.+whole.Given as goal

abbrev pub decreases-is_whole : goal.decreases-is_whole
decreases-is_whole l = 2 * size (view l.node.now)

abbrev pub decreases-are_whole : goal.decreases-are_whole
decreases-are_whole l = 2 * sizes (views l.parts.now) + 1

abbrev pub invariant-are_whole-loop-part : goal.invariant-are_whole-loop-part
invariant-are_whole-loop-part l = are_whole l.tokens (views (drop l.part-index l.parts)) ≡ are_whole l.tokens (views l.parts)
