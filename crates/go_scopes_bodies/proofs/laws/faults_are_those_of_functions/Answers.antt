use Rattle.go_scopes_bodies.proofs.AllRules.{faults_by_functions}
use Rattle.go_scopes_bodies.proofs.laws.faults_are_those_of_functions.Goals as goal

pub returns : goal.returns
returns c = faults_by_functions c.declarations_bound_rounds.ensures
