use Rattle.go_renumbering.proofs.Typing.{typed_renamed}
use Rattle.go_renumbering.proofs.laws.renumbered_expressions_are_typed_the_same.Goals as goal

pub returns : goal.returns
returns c = typed_renamed
