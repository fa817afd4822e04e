use Rattle.go_renumbering.proofs.Ending.{terminates_same, breaks_same, statement_call_same}
use Rattle.go_renumbering.proofs.laws.endings_have_no_types.Goals as goal

pub returns : goal.returns
returns c = record { terminating = terminates_same; breaking = breaks_same; called = statement_call_same }
