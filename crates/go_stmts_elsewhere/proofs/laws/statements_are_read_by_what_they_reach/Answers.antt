use Rattle.go_stmts_elsewhere.proofs.Reached.{read_by_reach}
use Rattle.go_stmts_elsewhere.proofs.laws.statements_are_read_by_what_they_reach.Goals as goal

pub returns : goal.returns
returns c p l r bound f g h x reaches agree within tokens =
    read_by_reach p l r bound c.statements_follow_from_their_tokens.ensures c.renumbered_statements_are_read_the_same.ensures f g h x reaches agree within tokens
