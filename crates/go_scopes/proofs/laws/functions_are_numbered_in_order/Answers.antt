use Rattle.go_scopes.proofs.Numbering.{numbered_functions}
use Rattle.go_scopes.proofs.laws.functions_are_numbered_in_order.Goals as goal

pub returns : goal.returns
returns c = numbered_functions
