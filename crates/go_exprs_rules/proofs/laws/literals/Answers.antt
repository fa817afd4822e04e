use Rattle.go_exprs_rules.proofs.LiteralExamples.{literal_examples_hold}
use Rattle.go_exprs_rules.proofs.laws.literals.Goals as goal

pub returns : goal.returns
returns c = literal_examples_hold
