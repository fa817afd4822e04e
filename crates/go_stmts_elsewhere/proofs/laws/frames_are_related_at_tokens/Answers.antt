use Rattle.go_stmts_elsewhere.proofs.Cutting.{related_along}
use Rattle.go_stmts_elsewhere.proofs.laws.frames_are_related_at_tokens.Goals as goal

pub returns : goal.returns
returns c p q m l f g d = related_along p q m l f g d
