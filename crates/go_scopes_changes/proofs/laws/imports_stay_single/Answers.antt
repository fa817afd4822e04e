use Rattle.go_scopes_changes.proofs.Imports.{imported_once}
use Rattle.go_scopes_changes.proofs.laws.imports_stay_single.Goals as goal

pub returns : goal.returns
returns c = imported_once c.carried_trees_tell_the_same.ensures 0
