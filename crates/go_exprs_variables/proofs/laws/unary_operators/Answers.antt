use Rattle.go_exprs_variables.proofs.Unary.{unary_row}
use Rattle.go_exprs_variables.proofs.laws.unary_operators.Goals as goal

pub returns : goal.returns
returns c rights o i j u a b h f v = let r = unary_row rights o i j u a b h f v in (r.failing, r.stands)
