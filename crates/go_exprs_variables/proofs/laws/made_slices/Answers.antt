use Rattle.go_exprs_variables.proofs.Builtins.{make_row}
use Rattle.go_exprs_variables.proofs.laws.made_slices.Goals as goal

pub returns : goal.returns
returns c rights i j x y xs ys e p f = make_row rights i j x y xs ys e p f
