use Rattle.go_scopes_changes.proofs.Members.{members_stay}
use Rattle.go_scopes_changes.proofs.laws.members_stay_different.Goals as goal

pub returns : goal.returns
returns c = members_stay c.carried_trees_tell_the_same.ensures
