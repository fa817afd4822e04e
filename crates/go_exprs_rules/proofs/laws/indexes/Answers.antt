use Rattle.go_exprs_rules.proofs.IndexExamples.{index_examples_hold}
use Rattle.go_exprs_rules.proofs.laws.indexes.Goals as goal

pub returns : goal.returns
returns c = index_examples_hold
