use Rattle.go_tree.specs.Lookups.{undeclared}
use Rattle.go_heads.specs.Functions.{function_alone}
use Rattle.go_scopes_bodies.specs.Faults.{all_asked, outside_asked, outer_in, own_undeclared}
use Rattle.go_scopes_bodies.proofs.Each.{by_functions}
use Rattle.go_scopes_bodies.proofs.Lookups.{undeclared_by_functions}
use Rattle.go_scopes_bodies.proofs.laws.undeclared_names_are_judged_by_functions.Goals as goal

pub returns : goal.returns
returns c fs h g = by_functions fs (λ n f. own_undeclared (function_alone f) (outer_in fs n)) (undeclared (outside_asked fs)) (undeclared (all_asked fs)) (undeclared_by_functions fs h g)
