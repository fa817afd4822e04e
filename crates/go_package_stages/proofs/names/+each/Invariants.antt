use Rattle.std.proofs.Common.{◌*◌, ◌+◌, drop}
use Rattle.go_tree.specs.Views.{view, views}
use Rattle.go_tree.proofs.Public.{height, heights}
use Rattle.go_package_laws.specs.Names.{EachNameIn}
use Rattle.go_package_stages.specs.Names.{IsFullBefore}
use Rattle.go_package_stages.proofs.names.+each.Given as goal

-- a node's measure is twice its height and one, and that of parts twice the height of a node that has them
abbrev pub decreases-are_before : goal.decreases-are_before
decreases-are_before l = 2 * height (view l.node.now) + 1

abbrev pub decreases-are_parts_before : goal.decreases-are_parts_before
decreases-are_parts_before l = 2 * heights (views l.parts.now)

abbrev pub invariant-are_parts_before-loop-part : goal.invariant-are_parts_before-loop-part
invariant-are_parts_before-loop-part l =
    let P = IsFullBefore l.marks.uses.now l.file l.marks.marks.now l.stage in
    EachNameIn P (views (drop l.part-index l.parts)) → EachNameIn P (views l.parts)
