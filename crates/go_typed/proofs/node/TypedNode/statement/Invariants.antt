use Rattle.std.proofs.Common.{◌≡◌, drop, slice_get}
use Rattle.go_typed.specs.Lists.{present}
use Rattle.go_typed.specs.Views.{views}
use Rattle.go_typed.proofs.node.TypedNode.statement.Given as goal

abbrev pub invariant-loop-part : goal.invariant-loop-part
invariant-loop-part l = slice_get (present (views (drop l.part-index l.part-items))) l.left ≡ slice_get (present (views l.part-items)) l.initial.left
