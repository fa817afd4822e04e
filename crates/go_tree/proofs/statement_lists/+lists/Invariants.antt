use Rattle.std.proofs.Common.{◌≡◌, ◌++◌, ◌*◌, ◌+◌, drop}
use Rattle.go_tree.specs.Lists.{lists_among, seen}
use Rattle.go_tree.specs.Views.{view, views}
use Rattle.go_tree.proofs.Heights.{height, heights}
use Rattle.go_tree.proofs.statement_lists.+lists.Given as goal

-- a node's measure is twice its height, and that of parts twice the height of a node that has them
abbrev pub decreases-push_lists : goal.decreases-push_lists
decreases-push_lists l = 2 * height (view l.node.now) + 1

abbrev pub decreases-push_among : goal.decreases-push_among
decreases-push_among l = 2 * heights (views l.parts.now)

abbrev pub invariant-push_among-loop-part : goal.invariant-push_among-loop-part
invariant-push_among-loop-part l = seen l.fn.nodes.items ++ lists_among (views l.parts) ≡ seen l.nodes.items ++ lists_among (views (drop l.part-index l.parts))
