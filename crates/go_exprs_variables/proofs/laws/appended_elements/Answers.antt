use Rattle.go_exprs_variables.proofs.Builtins.{append_row}
use Rattle.go_exprs_variables.proofs.Identities.{tree_self}
use Rattle.go_exprs_variables.proofs.laws.appended_elements.Goals as goal

pub returns : goal.returns
returns c rights i j x y t xs ys e f p g = append_row rights tree_self i j x y t xs ys e f p g
