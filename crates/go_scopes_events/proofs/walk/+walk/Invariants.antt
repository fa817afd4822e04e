use Rattle.std.proofs.Common.{◌≡◌, ◌++◌, ◌*◌, ◌+◌, drop}
use Rattle.go_grammar.specs.Trees.{kind_of, first, last, parts}
use Rattle.go_tree.specs.Views.{view, views}
use Rattle.go_tree.specs.Events.{events_of}
use Rattle.go_scopes_events.proofs.Heights.{height}
use Rattle.go_scopes_events.proofs.walk.+walk.Given as goal

-- a node's measure is twice its height and one, and that of its parts twice its height
abbrev pub decreases-walk : goal.decreases-walk
decreases-walk l = 2 * height (view l.node.now) + 1

abbrev pub decreases-walk_parts : goal.decreases-walk_parts
decreases-walk_parts l = 2 * height (view l.node.now)

-- what is told, and what the parts that are left tell, is what all of them tell
abbrev pub invariant-walk_parts-loop-number : goal.invariant-walk_parts-loop-number
invariant-walk_parts-loop-number l =
    l.out.items ++ events_of l.context (kind_of (view l.node)) (first (view l.node)) (last (view l.node)) (parts (view l.node)) l.number (views (drop l.number l.parts))
    ≡ l.fn.out.items ++ events_of l.fn.context (kind_of (view l.node)) (first (view l.node)) (last (view l.node)) (parts (view l.node)) 0 (parts (view l.node))
