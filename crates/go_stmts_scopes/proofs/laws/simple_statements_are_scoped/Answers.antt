use Rattle.go_stmts_scopes.specs.Scoped.{tested}
use Rattle.go_stmts_scopes.proofs.Statements.{all_scoped}
use Rattle.go_stmts_scopes.proofs.laws.simple_statements_are_scoped.Goals as goal

pub returns : goal.returns
returns c named written declared may rights local gone W s = all_scoped (tested named written declared may) rights local gone W s
