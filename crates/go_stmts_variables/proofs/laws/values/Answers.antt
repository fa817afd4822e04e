use Rattle.go_stmts_variables.proofs.Values.{values_kept}
use Rattle.go_stmts_variables.proofs.laws.values.Goals as goal

pub returns : goal.returns
returns c rights i j ts xs ys g e = values_kept rights i j ts xs ys g e
