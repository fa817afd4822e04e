use Rattle.go_grammar.proofs.Ranges.{lies_within}
use Rattle.go_grammar.proofs.laws.ranges_lie_within.Goals as goal

pub returns : goal.returns
returns c = lies_within
