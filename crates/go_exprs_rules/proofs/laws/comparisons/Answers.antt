use Rattle.go_exprs_rules.proofs.ComparisonExamples.{comparison_examples_hold}
use Rattle.go_exprs_rules.proofs.laws.comparisons.Goals as goal

pub returns : goal.returns
returns c = comparison_examples_hold
