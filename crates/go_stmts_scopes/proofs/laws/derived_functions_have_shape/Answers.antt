use Rattle.go_stmts_scopes.proofs.Bodies.{statement_read, function_read}
use Rattle.go_stmts_scopes.proofs.laws.derived_functions_have_shape.Goals as goal

pub returns : goal.returns
returns c = (statement_read, function_read)
