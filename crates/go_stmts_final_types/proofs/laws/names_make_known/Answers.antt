use Rattle.go_stmts_final_types.proofs.Bodies.{function_known}
use Rattle.go_stmts_final_types.proofs.laws.names_make_known.Goals as goal

pub returns : goal.returns
returns c s number locals types t f w e k = function_known s number locals types t f w e k
