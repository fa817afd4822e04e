use Rattle.std.proofs.Common.{◌≡◌, List, [], ◌∷◌, refl}
use Rattle.go_exprs_rules.specs.declared.fault.TypeFault.{TypeFault}
use Rattle.go_exprs_rules.specs.Scopes.{Scope}
use Rattle.go_package_defs.specs.Declarations.{Specification}
use Rattle.go_package_defs.specs.Knowledge.{Outline, State, free_scope}
use Rattle.go_package_defs.specs.Sources.{Package}
use Rattle.go_package_defs.specs.Verdicts.{expression_faults, specification_rule, specification_faults_on, is_blocked}
use Rattle.go_package_types.specs.Whole.{unless_failing}
use Rattle.go_package_types.proofs.laws.known_faults.Goals as goal

on : (p : Package) (os : List Outline) (ss : List State) (s : Scope) (d : Specification) (fs : List TypeFault)
    → specification_faults_on p os ss s d fs ≡ unless_failing (is_blocked p os ss d) (specification_rule s d) fs
on p os ss s d [] = refl
on p os ss s d (f ∷ fs) = refl

pub returns : goal.returns
returns c p os known d = on p os known (free_scope p os known d) d (expression_faults (free_scope p os known d) d)
