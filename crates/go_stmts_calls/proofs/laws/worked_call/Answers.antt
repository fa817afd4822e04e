use Rattle.go_stmts_calls.proofs.Worked.{worked_call}
use Rattle.go_stmts_calls.proofs.laws.worked_call.Goals as goal

pub returns : goal.returns
returns c = worked_call c.calls_are_typed.ensures
