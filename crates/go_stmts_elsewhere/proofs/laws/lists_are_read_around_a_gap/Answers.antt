use Rattle.go_stmts_elsewhere.proofs.Marked.{gap_at}
use Rattle.go_stmts_elsewhere.proofs.laws.lists_are_read_around_a_gap.Goals as goal

pub returns : goal.returns
returns c p q p2 q2 m l l2 f g front old new rest d k gap v = gap_at c.statements_follow_from_their_tokens.ensures p q p2 q2 m l l2 f g front old new rest d k gap v
