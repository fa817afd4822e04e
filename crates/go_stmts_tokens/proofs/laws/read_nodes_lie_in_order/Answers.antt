use Rattle.go_stmts_tokens.proofs.Readings.{nodes_lie}
use Rattle.go_stmts_tokens.proofs.laws.read_nodes_lie_in_order.Goals as goal

pub returns : goal.returns
returns k ts c t b s h x fs behind d u n e = nodes_lie ts c t b s h x fs behind d u n e
