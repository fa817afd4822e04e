use Rattle.go_scopes.proofs.NamePlaces.{parameter_places, any_places}
use Rattle.go_scopes.proofs.laws.repeated_parameters_have_the_places_of_the_rule.Goals as goal

pub returns-clause-parameters : goal.returns-clause-parameters
returns-clause-parameters c = parameter_places

pub returns-clause-rule : goal.returns-clause-rule
returns-clause-rule c = any_places
