use Rattle.go_stmts_elsewhere.proofs.Functions.{functions_along}
use Rattle.go_stmts_elsewhere.proofs.laws.functions_are_typed_elsewhere.Goals as goal

pub returns : goal.returns
returns c m l s t count other types others old number x d e w v = functions_along m l s t count other types others d e old number x w v
