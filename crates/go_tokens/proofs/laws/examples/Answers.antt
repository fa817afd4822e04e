use Rattle.go_tokens.proofs.Examples.{all}
use Rattle.go_tokens.proofs.laws.examples.Goals as goal

pub returns : goal.returns
returns c = all
