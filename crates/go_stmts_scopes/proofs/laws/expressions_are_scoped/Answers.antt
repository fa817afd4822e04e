use Rattle.go_stmts_scopes.specs.Scoped.{tested}
use Rattle.go_stmts_scopes.proofs.Expressions.{value_scoped, place_scoped}
use Rattle.go_stmts_scopes.proofs.laws.expressions_are_scoped.Goals as goal

pub returns : goal.returns
returns c named written declared may rights local gone s x e =
    let n = tested named written declared may in record { value = value_scoped n rights local gone s x e; place = place_scoped n rights local gone s x e }
