use Rattle.go_stmts_final_types.proofs.Functions.{function_typed}
use Rattle.go_stmts_final_types.proofs.laws.holes_have_types.Goals as goal

pub returns : goal.returns
returns c s number locals types t f w e k = function_typed s number locals types t f w e k
