use Rattle.go_stmts_elsewhere.proofs.Alone.{read_alone}
use Rattle.go_stmts_elsewhere.proofs.laws.statements_are_read_by_what_they_name.Goals as goal

pub returns : goal.returns
returns c p l f g h x d t = read_alone c.statements_follow_from_their_tokens.ensures p l f g d h x t
