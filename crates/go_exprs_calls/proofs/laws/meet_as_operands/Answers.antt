use Rattle.go_exprs_calls.proofs.Meeting.{arguments_meet}
use Rattle.go_exprs_calls.proofs.laws.meet_as_operands.Goals as goal

pub returns : goal.returns
returns c = arguments_meet
