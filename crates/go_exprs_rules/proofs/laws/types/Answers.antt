use Rattle.go_exprs_rules.proofs.TypeExamples.{type_examples_hold}
use Rattle.go_exprs_rules.proofs.laws.types.Goals as goal

pub returns : goal.returns
returns c = type_examples_hold
