use Rattle.std.proofs.Common.{◌≡◌, ◌*◌, ◌+◌, [], drop, length, map, Option}
use Rattle.std.specs.Option.{option_map}
use Rattle.go_types_relations.specs.Extends.{Grows}
use Rattle.go_tree.specs.Views.{view, views}
use Rattle.go_tree.proofs.Public.{height, heights}
use Rattle.go_typed.specs.Views.{seen, AllKnown}
use Rattle.go_exprs_rules.specs.Hints.{hint_seen}
use Rattle.go_exprs_types.specs.Naming.{names}
use Rattle.go_exprs_engine.proofs.Rows.{left}
use Rattle.go_exprs_engine.proofs.engine.+typing.Given as goal

-- a node's measure is twice its height and one, and that of parts twice the height of a node that has them
abbrev pub decreases-type_node : goal.decreases-type_node
decreases-type_node l = 2 * height (view l.node.now) + 1

abbrev pub decreases-type_parts : goal.decreases-type_parts
decreases-type_parts l = 2 * heights (views l.written.now)

abbrev pub invariant-type_parts-loop-place : goal.invariant-type_parts-loop-place
invariant-type_parts-loop-place l =
    let s = names l.fn.types l.scope in
    let h = hint_seen l.fn.types l.hint in
    let ps = views l.written in
    Grows l.fn.types l.types
    × AllKnown (length l.types.shapes) l.parts.items
    × (left s l.kind h ps (map (option_map (seen l.types)) l.parts.items) (views (drop l.place-index l.written)) ≡ left s l.kind h ps [] ps)
