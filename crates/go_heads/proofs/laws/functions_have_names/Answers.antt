use Rattle.go_heads.proofs.Told.{named}
use Rattle.go_heads.proofs.laws.functions_have_names.Goals as goal

pub returns : goal.returns
returns c = named c.functions_are_told_in_order.ensures
