use Rattle.go_exprs_variables.proofs.Shifts.{shift_row}
use Rattle.go_exprs_variables.proofs.Identities.{tree_self}
use Rattle.go_exprs_variables.proofs.laws.shifts.Goals as goal

pub returns : goal.returns
returns c rights u o i j x y z v p q f value = let r = shift_row rights tree_self u o i j x y z v p q f value in (r.failing, r.stands)
