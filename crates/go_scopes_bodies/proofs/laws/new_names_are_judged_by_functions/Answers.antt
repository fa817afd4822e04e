use Rattle.go_tree.specs.Declarations.{declarations, found}
use Rattle.go_tree.specs.Redeclared.{none_new}
use Rattle.go_heads.specs.Functions.{function_alone}
use Rattle.go_heads.specs.Objects.{units_of}
use Rattle.go_scopes_bodies.specs.Outside.{outside_units}
use Rattle.go_scopes_bodies.specs.Faults.{own_none_new}
use Rattle.go_scopes_bodies.proofs.Each.{by_functions}
use Rattle.go_scopes_bodies.proofs.New.{none_new_by_functions}
use Rattle.go_scopes_bodies.proofs.laws.new_names_are_judged_by_functions.Goals as goal

pub returns : goal.returns
returns c fs h g = by_functions fs (λ n f. own_none_new (function_alone f)) (none_new (declarations (units_of fs)) (found (outside_units fs))) (none_new (declarations (units_of fs)) (found (units_of fs))) (none_new_by_functions fs h g)
