use Rattle.go_exprs_variables.proofs.Places.{place_row}
use Rattle.go_exprs_variables.proofs.laws.places.Goals as goal

pub returns : goal.returns
returns c rights i j h o a b s f = place_row rights i j h o a b s f
