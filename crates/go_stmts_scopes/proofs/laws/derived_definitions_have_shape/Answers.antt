use Rattle.go_stmts_scopes.proofs.Simple.{first_read}
use Rattle.go_stmts_scopes.proofs.laws.derived_definitions_have_shape.Goals as goal

pub returns : goal.returns
returns c = λ k s h t g e. first_read k s h t e g
