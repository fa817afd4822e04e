use Rattle.go_stmts_elsewhere.proofs.Behind.{rest_left}
use Rattle.go_stmts_elsewhere.proofs.laws.statements_leave_the_rest.Goals as goal

pub returns : goal.returns
returns c f ts d = rest_left f ts d
