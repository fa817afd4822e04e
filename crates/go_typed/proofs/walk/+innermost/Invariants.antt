use Rattle.std.proofs.Common.{◌≡◌, ◌+◌, ◌≤◌, drop}
use Rattle.go_typed.specs.Funcs.{size, sizes}
use Rattle.go_typed.specs.Places.{innermost_among}
use Rattle.go_typed.specs.Views.{view, views}
use Rattle.go_typed.proofs.walk.+innermost.Given as goal

abbrev pub decreases-innermost : goal.decreases-innermost
decreases-innermost l = size (view l.node.now)

-- the number is that of the next part, and all numbers are those of the node
abbrev pub invariant-loop-part : goal.invariant-loop-part
invariant-loop-part l =
    (innermost_among l.token l.number (views (drop l.part-index l.part-items)) ≡ innermost_among l.token 1 (views l.part-items))
    × (l.number + sizes (views (drop l.part-index l.part-items)) ≡ 1 + sizes (views l.part-items))
    × (1 ≤ l.number)
