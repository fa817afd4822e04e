use Rattle.go_exprs_variables.proofs.ComparisonRows.{comparison_row}
use Rattle.go_exprs_variables.proofs.Identities.{tree_self}
use Rattle.go_exprs_variables.proofs.laws.comparisons.Goals as goal

pub returns : goal.returns
returns c rights o i j d x y z v p q m n k is f = comparison_row rights tree_self o i j d x y z v p q m n k is f
