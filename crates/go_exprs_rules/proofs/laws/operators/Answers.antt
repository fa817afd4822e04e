use Rattle.go_exprs_rules.proofs.OperatorExamples.{operator_examples_hold}
use Rattle.go_exprs_rules.proofs.laws.operators.Goals as goal

pub returns : goal.returns
returns c = operator_examples_hold
