use Rattle.go_exprs_variables.proofs.Conversions.{conversion_row}
use Rattle.go_exprs_variables.proofs.Identities.{tree_self}
use Rattle.go_exprs_variables.proofs.laws.conversions.Goals as goal

pub returns : goal.returns
returns c rights i j t x y p f v = let r = conversion_row rights tree_self i j t x y p f v in (r.failing, r.stands)
