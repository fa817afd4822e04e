use Rattle.std.proofs.Common.{◌≡◌, ◌+◌, ◌-◌, ◌^◌, ◌≤◌, min, drop}
use Rattle.go_typed.specs.Funcs.{sizes}
use Rattle.go_typed.specs.Views.{views}
use Rattle.go_typed.proofs.node.TypedNode.+size.Given as goal

abbrev pub invariant-loop-part : goal.invariant-loop-part
invariant-loop-part l =
    (min (l.size + sizes (views (drop l.part-index l.part-items))) (2 ^ 64 - 1) ≡ min (1 + sizes (views l.part-items)) (2 ^ 64 - 1))
    × (l.size ≤ 2 ^ 64 - 1)
