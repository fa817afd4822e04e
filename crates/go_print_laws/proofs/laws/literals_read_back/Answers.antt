use Rattle.go_print_laws.proofs.Constants.{literals_read_back}
use Rattle.go_print_laws.proofs.laws.literals_read_back.Goals as goal

pub returns : goal.returns
returns c = literals_read_back
