use Rattle.go_stmts_steady.proofs.Steadying.{ordered_steady}
use Rattle.go_stmts_steady.proofs.laws.ordered_statements_are_steady.Goals as goal

pub returns : goal.returns
returns c k f h x known within ordered = ordered_steady c.renumbered_statements_are_read_the_same.ensures k f h x known within ordered
