use Rattle.go_stmts_steady.proofs.Asked.{order_is_met}
use Rattle.go_stmts_steady.proofs.laws.order_is_met.Goals as goal

pub returns : goal.returns
returns c = order_is_met c.renumbered_statements_are_read_the_same.ensures c.bodies_are_read.ensures c.asked_is_met.ensures
