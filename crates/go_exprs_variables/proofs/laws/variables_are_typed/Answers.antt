use Rattle.go_exprs_variables.proofs.Holes.{hole_typed}
use Rattle.go_exprs_variables.proofs.laws.variables_are_typed.Goals as goal

pub returns : goal.returns
returns c w s t h k i j ps st naming e f fits = hole_typed w s t h k i j ps st naming e f fits
