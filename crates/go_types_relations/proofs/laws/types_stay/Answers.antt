use Rattle.go_types_relations.proofs.Extending.{tree_stays, right_stays}
use Rattle.go_types_relations.proofs.laws.types_stay.Goals as goal

pub returns-clause-trees : goal.returns-clause-trees
returns-clause-trees c = λ old new i ok e. tree_stays old new ok e i

pub returns-clause-rights : goal.returns-clause-rights
returns-clause-rights c = λ old new n r ok e. right_stays old new ok e n r
