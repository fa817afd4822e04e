use Rattle.go_function_holes_apart.proofs.Functions.{function_holes}
use Rattle.go_function_holes_apart.proofs.laws.holes_of_windows_lie_apart.Goals as goal

pub returns : goal.returns
returns g c w f r h e = function_holes g.read_nodes_lie_in_order.ensures g.holes_of_ordered_windows_lie_apart.ensures c w f r h e
