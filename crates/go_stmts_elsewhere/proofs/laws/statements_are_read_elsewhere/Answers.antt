use Rattle.go_stmts_elsewhere.proofs.Reading.{reading_along}
use Rattle.go_stmts_elsewhere.proofs.laws.statements_are_read_elsewhere.Goals as goal

pub returns : goal.returns
returns c m l f g h x d w v = reading_along m l f g d h x w v
