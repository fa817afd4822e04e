use Rattle.go_typed.proofs.Innermost.{finds_innermost}
use Rattle.go_typed.proofs.laws.innermost_nodes.Goals as goal

pub returns : goal.returns
returns c = λ x t tiled over. finds_innermost t x tiled over
