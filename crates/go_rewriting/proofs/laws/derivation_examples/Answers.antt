use Rattle.go_rewriting.proofs.DerivationExamples.{all}
use Rattle.go_rewriting.proofs.laws.derivation_examples.Goals as goal

pub returns : goal.returns
returns c = all
