use Rattle.go_exprs_elsewhere.proofs.Spelling.{all_spelled}
use Rattle.go_exprs_elsewhere.proofs.laws.trees_spelled_the_same_keep_it.Goals as goal

pub returns : goal.returns
returns c = all_spelled
