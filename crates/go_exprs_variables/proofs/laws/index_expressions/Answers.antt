use Rattle.go_exprs_variables.proofs.Indexes.{index_row}
use Rattle.go_exprs_variables.proofs.laws.index_expressions.Goals as goal

pub returns : goal.returns
returns c rights i j o a b n m h p f = index_row rights i j o a b n m h p f
