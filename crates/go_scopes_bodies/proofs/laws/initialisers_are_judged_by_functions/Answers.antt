use Rattle.go_tree.specs.Lookups.{initialisers}
use Rattle.go_heads.specs.Functions.{function_alone}
use Rattle.go_scopes_bodies.specs.Faults.{all_asked, outer_in, outside_asked, own_initialisers}
use Rattle.go_scopes_bodies.proofs.Each.{by_functions}
use Rattle.go_scopes_bodies.proofs.Initial.{initialisers_by_functions}
use Rattle.go_scopes_bodies.proofs.laws.initialisers_are_judged_by_functions.Goals as goal

pub returns : goal.returns
returns c fs h g = by_functions fs (λ n f. own_initialisers (function_alone f) (outer_in fs n)) (initialisers (outside_asked fs)) (initialisers (all_asked fs)) (initialisers_by_functions fs h g)
