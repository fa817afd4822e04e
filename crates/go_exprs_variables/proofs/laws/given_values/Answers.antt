use Rattle.go_exprs_variables.proofs.Given.{unassignable_kept}
use Rattle.go_exprs_variables.proofs.Identities.{tree_self}
use Rattle.go_exprs_variables.proofs.laws.given_values.Goals as goal

pub returns : goal.returns
returns c rights t x y p f = unassignable_kept rights tree_self t x y p f
