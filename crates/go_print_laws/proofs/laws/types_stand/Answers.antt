use Rattle.go_print_laws.proofs.Standing.{types_stand}
use Rattle.go_print_laws.proofs.laws.types_stand.Goals as goal

pub returns : goal.returns
returns c = types_stand
