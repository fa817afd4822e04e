use Rattle.go_stmts_variables.proofs.Conditions.{condition_kept}
use Rattle.go_stmts_variables.proofs.laws.conditions.Goals as goal

pub returns : goal.returns
returns c rights o x y st e = condition_kept rights o x y st e
