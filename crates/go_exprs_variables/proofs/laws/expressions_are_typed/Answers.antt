use Rattle.go_exprs_variables.proofs.Law.{expressions_are_typed}
use Rattle.go_exprs_variables.proofs.laws.expressions_are_typed.Goals as goal

pub returns : goal.returns
returns c w s t h d x shape e n st proper f fits = expressions_are_typed w s t h d x shape e n st proper f fits
