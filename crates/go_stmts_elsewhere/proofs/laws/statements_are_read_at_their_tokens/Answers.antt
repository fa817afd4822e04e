use Rattle.go_stmts_elsewhere.proofs.Marked.{reading_at}
use Rattle.go_stmts_elsewhere.proofs.laws.statements_are_read_at_their_tokens.Goals as goal

pub returns : goal.returns
returns c p q m l f g h x d k = reading_at c.statements_follow_from_their_tokens.ensures p q m l f g d h x k
