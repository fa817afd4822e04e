use Rattle.go_tree.specs.Constants.{hidden_lists}
use Rattle.go_heads.specs.Functions.{function_alone}
use Rattle.go_heads.specs.Objects.{units_of}
use Rattle.go_scopes_bodies.specs.Faults.{own_hidden_lists}
use Rattle.go_scopes_bodies.specs.Outside.{outside_units}
use Rattle.go_scopes_bodies.proofs.Each.{by_functions}
use Rattle.go_scopes_bodies.proofs.Repeated.{lists_by_functions}
use Rattle.go_scopes_bodies.proofs.laws.repeated_lists_are_judged_by_functions.Goals as goal

pub returns : goal.returns
returns c fs h g = by_functions fs (λ n f. own_hidden_lists (function_alone f)) (hidden_lists (outside_units fs)) (hidden_lists (units_of fs)) (lists_by_functions fs h g)
