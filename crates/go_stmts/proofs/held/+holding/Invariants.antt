use Rattle.std.proofs.Common.{◌≡◌, ◌*◌, ◌+◌, [], drop, length, map, Option}
use Rattle.std.specs.Option.{option_map}
use Rattle.go_types_relations.specs.Extends.{Grows}
use Rattle.go_tree.specs.Views.{view, views}
use Rattle.go_tree.proofs.Public.{height, heights}
use Rattle.go_typed.specs.Views.{seen, AllKnown}
use Rattle.go_exprs_rules.specs.Hints.{hint_seen}
use Rattle.go_stmts_defs.specs.Frames.{Frame}
use Rattle.go_stmts.specs.Held.{HasScope, left}
use Rattle.go_stmts.proofs.held.+holding.Given as goal

-- a node's measure is twice its height and one, and that of parts twice the height of a node that has them
abbrev pub decreases-hold : goal.decreases-hold
decreases-hold l = 2 * height (view l.node.now) + 1

abbrev pub decreases-hold_parts : goal.decreases-hold_parts
decreases-hold_parts l = 2 * heights (views l.written.now)

abbrev pub invariant-hold_parts-loop-place : goal.invariant-hold_parts-loop-place
invariant-hold_parts-loop-place l =
    let h = hint_seen l.fn.types l.hint in
    let ps = views l.written in
    Grows l.fn.types l.types
    × AllKnown (length l.types.shapes) l.parts.items
    × ((s : Frame) → HasScope l.fn.types l.scope s → left s l.kind h ps (map (option_map (seen l.types)) l.parts.items) (views (drop l.place-index l.written)) ≡ left s l.kind h ps [] ps)
