use Rattle.go_print_laws.proofs.Retyped.{types_read_back}
use Rattle.go_print_laws.proofs.laws.types_read_back.Goals as goal

pub returns : goal.returns
returns c = types_read_back
