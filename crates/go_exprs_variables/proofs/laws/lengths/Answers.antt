use Rattle.go_exprs_variables.proofs.Builtins.{length_row}
use Rattle.go_exprs_variables.proofs.laws.lengths.Goals as goal

pub returns : goal.returns
returns c rights i j texts o x y h f = length_row rights i j texts o x y h f
