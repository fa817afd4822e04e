use Rattle.go_scopes_changes.proofs.Clauses.{clauses_stay}
use Rattle.go_scopes_changes.proofs.laws.clauses_stay_faultless.Goals as goal

pub returns : goal.returns
returns c = clauses_stay c.carried_trees_tell_the_same.ensures c.heads_tell_names.ensures
