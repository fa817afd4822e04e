use Rattle.go_stmts_scopes.proofs.TypedStatements.{reading_simple}
use Rattle.go_stmts_scopes.proofs.laws.typed_statements_are_simple.Goals as goal

pub returns : goal.returns
returns c = reading_simple
