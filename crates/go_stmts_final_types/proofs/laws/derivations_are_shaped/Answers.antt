use Rattle.go_stmts_final_types.proofs.Functions.{shaped, shape_based}
use Rattle.go_stmts_final_types.proofs.laws.derivations_are_shaped.Goals as goal

pub returns : goal.returns
returns c = record { here = λ ts k t d. shaped ts k t d; based = λ ts k b t d. shape_based b k t (shaped ts k t d) }
