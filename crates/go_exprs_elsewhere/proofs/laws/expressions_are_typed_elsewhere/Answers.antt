use Rattle.go_exprs_elsewhere.proofs.Typing.{typed_elsewhere}
use Rattle.go_exprs_elsewhere.proofs.laws.expressions_are_typed_elsewhere.Goals as goal

pub returns : goal.returns
returns c = typed_elsewhere
