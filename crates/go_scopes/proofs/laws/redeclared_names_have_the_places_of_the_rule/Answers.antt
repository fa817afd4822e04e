use Rattle.go_tree.specs.Declarations.{declarations}
use Rattle.go_scopes.proofs.NamePlaces.{redeclared_places}
use Rattle.go_scopes.proofs.laws.redeclared_names_have_the_places_of_the_rule.Goals as goal

pub returns : goal.returns
returns c us = redeclared_places us (declarations us)
