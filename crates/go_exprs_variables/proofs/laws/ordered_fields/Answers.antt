use Rattle.go_exprs_variables.proofs.Elements.{ordered_row}
use Rattle.go_exprs_variables.proofs.Identities.{tree_self}
use Rattle.go_exprs_variables.proofs.laws.ordered_fields.Goals as goal

pub returns : goal.returns
returns c rights i j ts xs ys p f = ordered_row rights tree_self i j ts xs ys p f
