use Rattle.go_typed.proofs.node_table.NodeTable.+node.Given as goal

abbrev pub decreases-node : goal.decreases-node
decreases-node l = l.number
