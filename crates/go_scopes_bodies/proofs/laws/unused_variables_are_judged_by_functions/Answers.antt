use Rattle.go_tree.specs.Declarations.{declarations}
use Rattle.go_tree.specs.Lookups.{unused_variables}
use Rattle.go_heads.specs.Functions.{function_alone}
use Rattle.go_heads.specs.Objects.{units_of}
use Rattle.go_scopes_bodies.specs.Faults.{all_asked, outer_in, outside_declared, own_unused}
use Rattle.go_scopes_bodies.proofs.Each.{by_functions}
use Rattle.go_scopes_bodies.proofs.Unused.{unused_by_functions}
use Rattle.go_scopes_bodies.proofs.laws.unused_variables_are_judged_by_functions.Goals as goal

pub returns : goal.returns
returns c fs h g = by_functions fs (λ n f. own_unused (function_alone f) (outer_in fs n)) (unused_variables (all_asked fs) (outside_declared fs)) (unused_variables (all_asked fs) (declarations (units_of fs))) (unused_by_functions fs h g)
