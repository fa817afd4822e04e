use Rattle.go_elsewhere.proofs.Further.{tree_further}
use Rattle.go_elsewhere.proofs.laws.trees_further_on_keep_their_names.Goals as goal

pub returns : goal.returns
returns c = tree_further
