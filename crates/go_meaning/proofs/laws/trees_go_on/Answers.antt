use Rattle.go_meaning.proofs.Clock.{tree_ends, tree_undecided}
use Rattle.go_meaning.proofs.laws.trees_go_on.Goals as goal

pub returns-clause-ended : goal.returns-clause-ended
returns-clause-ended c = tree_ends

pub returns-clause-undecided : goal.returns-clause-undecided
returns-clause-undecided c = tree_undecided
