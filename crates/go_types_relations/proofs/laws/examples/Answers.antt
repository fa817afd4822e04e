use Rattle.go_types_relations.proofs.Examples.{examples_hold}
use Rattle.go_types_relations.proofs.laws.examples.Goals as goal

pub returns : goal.returns
returns c = examples_hold
