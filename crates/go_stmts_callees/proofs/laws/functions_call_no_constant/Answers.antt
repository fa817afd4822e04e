use Rattle.go_stmts_callees.proofs.Functions.{function_free}
use Rattle.go_stmts_callees.proofs.laws.functions_call_no_constant.Goals as goal

pub returns : goal.returns
returns g s number locals types t f w e n = function_free s number locals types t f w e n
