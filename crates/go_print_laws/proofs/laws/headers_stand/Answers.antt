use Rattle.go_print_laws.proofs.Headed.{headers_stand}
use Rattle.go_print_laws.proofs.laws.headers_stand.Goals as goal

pub returns : goal.returns
returns c = headers_stand
