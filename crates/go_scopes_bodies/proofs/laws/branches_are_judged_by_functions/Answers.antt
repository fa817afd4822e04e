use Rattle.go_tree.specs.Branches.{branches}
use Rattle.go_heads.specs.Functions.{function_alone}
use Rattle.go_heads.specs.Objects.{units_of}
use Rattle.go_scopes_bodies.specs.Outside.{outside_units}
use Rattle.go_scopes_bodies.specs.Faults.{own_misplaced}
use Rattle.go_scopes_bodies.proofs.Each.{by_functions}
use Rattle.go_scopes_bodies.proofs.Rules.{branches_by_functions}
use Rattle.go_scopes_bodies.proofs.laws.branches_are_judged_by_functions.Goals as goal

pub returns : goal.returns
returns c fs h g = by_functions fs (λ n f. own_misplaced (function_alone f)) (branches (outside_units fs)) (branches (units_of fs)) (branches_by_functions fs h g)
