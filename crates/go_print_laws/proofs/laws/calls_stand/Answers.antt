use Rattle.go_print_laws.proofs.Called.{calls_stand}
use Rattle.go_print_laws.proofs.laws.calls_stand.Goals as goal

pub returns : goal.returns
returns c = calls_stand
