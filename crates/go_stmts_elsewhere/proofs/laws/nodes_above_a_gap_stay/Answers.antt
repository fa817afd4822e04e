use Rattle.go_stmts_elsewhere.proofs.Above.{nodes_above}
use Rattle.go_stmts_elsewhere.proofs.laws.nodes_above_a_gap_stay.Goals as goal

pub returns : goal.returns
returns c s k w i j xs ys e = nodes_above s k w i j xs ys e
