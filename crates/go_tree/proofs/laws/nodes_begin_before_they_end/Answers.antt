use Rattle.go_tree.proofs.Order.{node_in_order}
use Rattle.go_tree.proofs.laws.nodes_begin_before_they_end.Goals as goal

pub returns : goal.returns
returns c = node_in_order
