use Rattle.go_scopes_events.proofs.Functions.{file_told}
use Rattle.go_scopes_events.proofs.laws.functions_are_told_in_order.Goals as goal

pub returns : goal.returns
returns c = file_told
