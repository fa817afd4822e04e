use Rattle.go_stmts_variables.proofs.Ranges.{range_kept}
use Rattle.go_stmts_variables.proofs.laws.range_clauses.Goals as goal

pub returns : goal.returns
returns c rights i j defines ts us x y xs ys g o e = range_kept rights i j defines ts us x y xs ys g o e
