use Rattle.go_stmts_elsewhere.proofs.Ends.{nodes_end, lists_end}
use Rattle.go_stmts_elsewhere.proofs.laws.nodes_end_alike.Goals as goal

pub returns : goal.returns
returns c = record { nodes = nodes_end; lists = lists_end }
