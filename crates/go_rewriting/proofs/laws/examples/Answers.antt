use Rattle.go_rewriting.proofs.TextExamples.{all}
use Rattle.go_rewriting.proofs.laws.examples.Goals as goal

pub returns : goal.returns
returns c = all
