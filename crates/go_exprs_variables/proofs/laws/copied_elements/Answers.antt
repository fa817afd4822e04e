use Rattle.go_exprs_variables.proofs.Builtins.{copy_row}
use Rattle.go_exprs_variables.proofs.laws.copied_elements.Goals as goal

pub returns : goal.returns
returns c rights i j o q x y z v h k f = copy_row rights i j o q x y z v h k f
