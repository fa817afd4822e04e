use Rattle.go_stmts_scopes.proofs.Typed.{typing_runs}
use Rattle.go_stmts_scopes.proofs.laws.typed_expressions_are_expressions.Goals as goal

pub returns : goal.returns
returns c = typing_runs
