use Rattle.go_meaning.proofs.Renaming.{tree_alike, run_renamed}
use Rattle.go_meaning.proofs.laws.renamed_locals_do_the_same.Goals as goal

pub returns-clause-tree : goal.returns-clause-tree
returns-clause-tree c = tree_alike

pub returns-clause-package : goal.returns-clause-package
returns-clause-package c = run_renamed
