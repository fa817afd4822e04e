use Rattle.go_stmts_scopes.proofs.Derivations.{derived_simple}
use Rattle.go_stmts_scopes.proofs.TypedStatements.{reading_simple}
use Rattle.go_stmts_scopes.proofs.laws.derived_statements_are_simple.Goals as goal

pub returns : goal.returns
returns c = λ k s h t g e. reading_simple s h t (derived_simple k t g e)
