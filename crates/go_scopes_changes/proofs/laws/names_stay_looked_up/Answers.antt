use Rattle.go_scopes_changes.proofs.Lookups.{lookups_stay}
use Rattle.go_scopes_changes.proofs.laws.names_stay_looked_up.Goals as goal

pub returns : goal.returns
returns c = λ old new h k e f. lookups_stay old new h k e (c.names_outside_of_functions_stay.ensures old new h k e) c.carried_trees_tell_the_same.ensures f
