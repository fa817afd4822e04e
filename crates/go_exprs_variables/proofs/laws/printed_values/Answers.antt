use Rattle.go_exprs_variables.proofs.Builtins.{printed_row}
use Rattle.go_exprs_variables.proofs.laws.printed_values.Goals as goal

pub returns : goal.returns
returns c rights i j o x y p f = printed_row rights i j o x y p f
