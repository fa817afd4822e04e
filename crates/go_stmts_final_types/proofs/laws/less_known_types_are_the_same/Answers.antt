use Rattle.go_stmts_final_types.proofs.Fewer.{type_fewer}
use Rattle.go_stmts_final_types.proofs.laws.less_known_types_are_the_same.Goals as goal

pub returns : goal.returns
returns c s sorts h t f w = type_fewer s sorts f h t w
