use Rattle.std.proofs.Common.{[]}
use Rattle.go_tree.specs.Duplicates.{second_members}
use Rattle.go_tree.specs.Failures.{of_files}
use Rattle.go_heads.specs.Functions.{function_alone}
use Rattle.go_heads.specs.Objects.{units_of}
use Rattle.go_scopes_bodies.specs.Faults.{own_second_members}
use Rattle.go_scopes_bodies.specs.Outside.{outside_units}
use Rattle.go_scopes_bodies.proofs.Each.{by_functions}
use Rattle.go_scopes_bodies.proofs.Members.{members_by_functions}
use Rattle.go_scopes_bodies.proofs.laws.members_are_judged_by_functions.Goals as goal

pub returns : goal.returns
returns c fs h g = by_functions fs (λ n f. own_second_members (function_alone f)) (of_files (second_members []) 0 (outside_units fs)) (of_files (second_members []) 0 (units_of fs)) (members_by_functions fs h g)
