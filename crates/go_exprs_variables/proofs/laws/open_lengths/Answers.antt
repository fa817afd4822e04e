use Rattle.go_exprs_variables.proofs.Builtins.{length_kept_open}
use Rattle.go_exprs_variables.proofs.laws.open_lengths.Goals as goal

pub returns : goal.returns
returns c rights o x y h e f g = length_kept_open rights o x y h e f g
