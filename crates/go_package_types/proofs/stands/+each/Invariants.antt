use Rattle.std.proofs.Common.{◌*◌, ◌+◌, drop}
use Rattle.go_tree.specs.Views.{view, views}
use Rattle.go_tree.proofs.Public.{height, heights}
use Rattle.go_package_laws.specs.Places.{EachPart}
use Rattle.go_package_types.specs.Places.{stands}
use Rattle.go_package_types.proofs.stands.+each.Given as goal

-- a node's measure is twice its height and one, and that of parts twice the height of a node that has them
abbrev pub decreases-each_node : goal.decreases-each_node
decreases-each_node l = 2 * height (view l.node.now) + 1

abbrev pub decreases-each_part : goal.decreases-each_part
decreases-each_part l = 2 * heights (views l.parts.now)

abbrev pub invariant-each_part-loop-part : goal.invariant-each_part-loop-part
invariant-each_part-loop-part l = EachPart (stands l.tokens) (views (drop l.part-index l.parts)) → EachPart (stands l.tokens) (views l.parts)
