use Rattle.std.proofs.Common.{◌≡◌, ◌++◌, drop}
use Rattle.go_typed.specs.Lists.{lists_among, seen_lists}
use Rattle.go_typed.specs.Views.{views}
use Rattle.go_typed.proofs.lists.+push_lists.Given as goal

abbrev pub invariant-loop-part : goal.invariant-loop-part
invariant-loop-part l = seen_lists l.initial.nodes.items ++ lists_among (views l.part-items) ≡ seen_lists l.nodes.items ++ lists_among (views (drop l.part-index l.part-items))
