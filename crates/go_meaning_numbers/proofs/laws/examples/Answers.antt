use Rattle.go_meaning_numbers.proofs.Examples.{worked}
use Rattle.go_meaning_numbers.proofs.laws.examples.Goals as goal

pub returns : goal.returns
returns c = worked
