use Rattle.go_tree.specs.Lookups.{not_called}
use Rattle.go_heads.specs.Functions.{function_alone}
use Rattle.go_scopes_bodies.specs.Faults.{all_asked, outside_asked, outer_in, own_not_called}
use Rattle.go_scopes_bodies.proofs.Each.{by_functions}
use Rattle.go_scopes_bodies.proofs.Lookups.{not_called_by_functions}
use Rattle.go_scopes_bodies.proofs.laws.calls_of_members_are_judged_by_functions.Goals as goal

pub returns : goal.returns
returns c fs h g = by_functions fs (λ n f. own_not_called (function_alone f) (outer_in fs n)) (not_called (outside_asked fs)) (not_called (all_asked fs)) (not_called_by_functions fs h g)
