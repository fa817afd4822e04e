use Rattle.std.proofs.Common.{◌*◌, ◌+◌, true, false, [], ◌∷◌, drop}
use Rattle.go_tree.specs.Views.{view, views}
use Rattle.go_tree.proofs.Public.{height, heights}
use Rattle.go_package_stages.specs.Names.{ways_before}
use Rattle.go_package_stages.specs.Ways.{WaysIn}
use Rattle.go_package_stages.proofs.types.+way.Given as goal

-- a node's measure is four times its height and three, that of parts four times the height of a node that has them, and more where the first is among them
abbrev pub decreases-is_type_node_before : goal.decreases-is_type_node_before
decreases-is_type_node_before l = 4 * height (view l.node.now) + 3

abbrev pub decreases-are_parts_before : goal.decreases-are_parts_before
decreases-are_parts_before l = 4 * heights (views l.parts.now) + 2

abbrev pub decreases-is_first_before : goal.decreases-is_first_before
decreases-is_first_before l = 4 * heights (views (l.first.now ∷ [])) + 1

abbrev pub decreases-are_others_before : goal.decreases-are_others_before
decreases-are_others_before l = 4 * heights (views l.rest.now)

abbrev pub invariant-are_others_before-loop-part : goal.invariant-are_others_before-loop-part
invariant-are_others_before-loop-part l =
    let m = l.marks in
    let w = ways_before m.named.uses.now m.file m.named.marks.now m.counted.uses.now m.counted.marks.now m.stage in
    WaysIn w l.kind l.loose (views l.parts) false (views (drop l.part-index l.rest)) true false → WaysIn w l.kind l.loose (views l.parts) false (views l.rest) true false
