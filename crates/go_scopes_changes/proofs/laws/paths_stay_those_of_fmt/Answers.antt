use Rattle.go_scopes_changes.proofs.Imports.{paths_stay}
use Rattle.go_scopes_changes.proofs.laws.paths_stay_those_of_fmt.Goals as goal

pub returns : goal.returns
returns c = paths_stay c.carried_trees_tell_the_same.ensures 0
