use Rattle.go_exprs_variables.proofs.Stills.{still_typed}
use Rattle.go_exprs_variables.proofs.Standing.{still_free}
use Rattle.go_exprs_variables.proofs.laws.other_trees_are_typed.Goals as goal

pub returns : goal.returns
returns c w s t h k x e st free f = still_typed w s t h k x e st (still_free w s h x free) f
