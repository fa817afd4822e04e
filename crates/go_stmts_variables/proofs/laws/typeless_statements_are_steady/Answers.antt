use Rattle.go_stmts_variables.proofs.Steady.{typeless_steady}
use Rattle.go_stmts_variables.proofs.laws.typeless_statements_are_steady.Goals as goal

pub returns : goal.returns
returns c f h x e = typeless_steady f h x e
