use Rattle.go_exprs_variables.proofs.Elements.{keyed_row}
use Rattle.go_exprs_variables.proofs.Identities.{tree_self}
use Rattle.go_exprs_variables.proofs.laws.named_fields.Goals as goal

pub returns : goal.returns
returns c rights i j ts xs ys p f = keyed_row rights tree_self i j ts xs ys p f
