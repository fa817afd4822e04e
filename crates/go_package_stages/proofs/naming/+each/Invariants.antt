use Rattle.std.proofs.Common.{◌*◌, ◌+◌}
use Rattle.go_tree.specs.Views.{view, views}
use Rattle.go_tree.proofs.Public.{height, heights}
use Rattle.go_package_stages.proofs.naming.+each.Given as goal

-- a node's measure is twice its height and one, and that of parts twice the height of a node that has them
abbrev pub decreases-add_names : goal.decreases-add_names
decreases-add_names l = 2 * height (view l.node.now) + 1

abbrev pub decreases-add_parts : goal.decreases-add_parts
decreases-add_parts l = 2 * heights (views l.parts.now)
