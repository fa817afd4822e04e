use Rattle.go_stmts_scopes.proofs.Variables.{variables_read}
use Rattle.go_stmts_scopes.proofs.laws.derived_specifications_have_shape.Goals as goal

pub returns : goal.returns
returns c = λ s h t g. (variables_read s h t g).0
