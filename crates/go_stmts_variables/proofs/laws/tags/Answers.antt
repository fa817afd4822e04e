use Rattle.go_stmts_variables.proofs.Conditions.{tag_kept}
use Rattle.go_stmts_variables.proofs.laws.tags.Goals as goal

pub returns : goal.returns
returns c rights x y o e = tag_kept rights x y o e
