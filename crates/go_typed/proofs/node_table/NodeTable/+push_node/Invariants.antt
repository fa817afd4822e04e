use Rattle.std.proofs.Common.{◌≡◌, ◌<◌, drop}
use Rattle.go_typed.specs.Funcs.{size}
use Rattle.go_typed.specs.Views.{view, views}
use Rattle.go_typed.proofs.NodeTables.{NodesLeft}
use Rattle.go_typed.proofs.node_table.NodeTable.+push_node.Given as goal

abbrev pub decreases-push_node : goal.decreases-push_node
decreases-push_node l = size (view l.node.now)

abbrev pub invariant-loop-part : goal.invariant-loop-part
invariant-loop-part l =
    NodesLeft l.number l.next l.index (views l.part-items) (views (drop l.part-index l.part-items)) l.initial.self.places.items l.self.places.items l.initial.self.lists.items l.self.lists.items
    × (l.index ≡ l.part-index)
    × (l.number < l.next)
