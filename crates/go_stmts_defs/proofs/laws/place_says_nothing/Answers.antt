use Rattle.go_stmts_defs.proofs.Moving.{place_says_nothing}
use Rattle.go_stmts_defs.proofs.laws.place_says_nothing.Goals as goal

pub returns : goal.returns
returns c = place_says_nothing
