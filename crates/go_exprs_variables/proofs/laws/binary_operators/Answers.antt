use Rattle.go_exprs_variables.proofs.Binary.{binary_row}
use Rattle.go_exprs_variables.proofs.Identities.{tree_self}
use Rattle.go_exprs_variables.proofs.laws.binary_operators.Goals as goal

pub returns : goal.returns
returns c rights u o i j x y z v h f value = let r = binary_row rights tree_self u o i j x y z v h f value in (r.failing, r.stands)
