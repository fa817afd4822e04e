use Rattle.go_exprs_variables.proofs.Extremes.{extreme_row}
use Rattle.go_exprs_variables.proofs.Identities.{tree_self, trees_same}
use Rattle.go_exprs_variables.proofs.laws.least_and_greatest.Goals as goal

pub returns : goal.returns
returns c rights o i j x y xs ys h n f = let r = extreme_row rights tree_self trees_same o i j x y xs ys h n f in (r.failing, r.stands, r.take)
