use Rattle.go_stmts_steady.proofs.Steadying.{ordered_steady}
use Rattle.go_stmts_steady.proofs.laws.ordered_statements_are_read.Goals as goal

pub returns : goal.returns
returns c k w s t h x shape st proper dec good fits tags known within ordered =
    c.statements_are_read.ensures w s t h x shape st proper dec good fits tags (ordered_steady c.renumbered_statements_are_read_the_same.ensures k s h x known within ordered)
