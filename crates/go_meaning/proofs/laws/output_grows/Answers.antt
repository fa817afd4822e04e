use Rattle.go_meaning.proofs.Trees.{bounded_grows}
use Rattle.go_meaning.proofs.laws.output_grows.Goals as goal

pub returns : goal.returns
returns c = λ P n t d f w turns. (bounded_grows P n t).by d f w turns
