use Rattle.go_stmts_scopes.specs.Scoped.{tested}
use Rattle.go_stmts_scopes.proofs.Shapes.{statement_scoped, function_scoped, chain}
use Rattle.go_stmts_scopes.proofs.laws.shaped_statements_are_scoped.Goals as goal

pub returns : goal.returns
returns c named written declared may rights local gone W s =
    let n = tested named written declared may in
    (λ x. record { statement = statement_scoped n rights local gone W s x; function = function_scoped n rights local gone W s x }, λ ps. chain n rights local gone W s ps)
