use Rattle.std.proofs.Common.{[]}
use Rattle.go_tree.specs.Declarations.{declarations}
use Rattle.go_tree.specs.Redeclared.{second_declarations}
use Rattle.go_heads.specs.Functions.{function_alone}
use Rattle.go_heads.specs.Objects.{units_of}
use Rattle.go_scopes_bodies.specs.Faults.{own_second_declarations, shared}
use Rattle.go_scopes_bodies.proofs.Each.{by_functions}
use Rattle.go_scopes_bodies.proofs.Once.{declared_once_by_functions}
use Rattle.go_scopes_bodies.proofs.laws.names_are_declared_once_by_functions.Goals as goal

pub returns : goal.returns
returns c fs h = by_functions fs (λ n f. own_second_declarations (function_alone f)) (second_declarations [] (shared (declarations (units_of fs)))) (second_declarations [] (declarations (units_of fs))) (declared_once_by_functions fs h)
