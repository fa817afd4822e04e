use Rattle.go_tree.specs.Lookups.{outside_members}
use Rattle.go_heads.specs.Functions.{function_alone}
use Rattle.go_scopes_bodies.specs.Faults.{all_asked, outside_asked, outer_in, own_outside_members}
use Rattle.go_scopes_bodies.proofs.Each.{by_functions}
use Rattle.go_scopes_bodies.proofs.Lookups.{outside_members_by_functions}
use Rattle.go_scopes_bodies.proofs.laws.outside_members_are_judged_by_functions.Goals as goal

pub returns : goal.returns
returns c fs h g = by_functions fs (λ n f. own_outside_members (function_alone f) (outer_in fs n)) (outside_members (outside_asked fs)) (outside_members (all_asked fs)) (outside_members_by_functions fs h g)
