use Rattle.go_scopes.proofs.MovedMeanings.{meaning_moved, object_moved}
use Rattle.go_scopes.proofs.laws.moved_names_mean_the_same.Goals as goal

pub returns-clause-meaning : goal.returns-clause-meaning
returns-clause-meaning c = meaning_moved

pub returns-clause-object : goal.returns-clause-object
returns-clause-object c = object_moved
