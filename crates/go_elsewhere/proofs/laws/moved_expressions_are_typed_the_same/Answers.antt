use Rattle.go_elsewhere.proofs.Typing.{typed_elsewhere}
use Rattle.go_elsewhere.proofs.laws.moved_expressions_are_typed_the_same.Goals as goal

pub returns : goal.returns
returns c = typed_elsewhere
