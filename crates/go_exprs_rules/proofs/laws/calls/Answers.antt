use Rattle.go_exprs_rules.proofs.CallExamples.{call_examples_hold}
use Rattle.go_exprs_rules.proofs.laws.calls.Goals as goal

pub returns : goal.returns
returns c = call_examples_hold
