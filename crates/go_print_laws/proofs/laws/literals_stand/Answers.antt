use Rattle.go_print_laws.proofs.Literals.{literals_stand}
use Rattle.go_print_laws.proofs.laws.literals_stand.Goals as goal

pub returns : goal.returns
returns c = literals_stand
