use Rattle.go_stmts_variables.proofs.Cases.{case_kept}
use Rattle.go_stmts_variables.proofs.laws.cases.Goals as goal

pub returns : goal.returns
returns c rights a b t x y st e o f = case_kept rights a b t x y st e o f
