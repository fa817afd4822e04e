use Rattle.go_exprs_variables.proofs.Elements.{elements_row}
use Rattle.go_exprs_variables.proofs.Identities.{tree_self}
use Rattle.go_exprs_variables.proofs.laws.elements.Goals as goal

pub returns : goal.returns
returns c rights i j t limit xs ys p f = elements_row rights tree_self i j t limit xs ys p f
