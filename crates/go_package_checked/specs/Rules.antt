-- The rules on the declarations of a package.
use Rattle.std.specs.Prelude.{◌≡◌, List, []}
use Rattle.std.specs.List.{AllByRecursion}
use Rattle.go_package_defs.specs.Declarations.{Specification}
use Rattle.go_package_defs.specs.Knowledge.{Outline, State, free_scope}
use Rattle.go_package_defs.specs.Sources.{Package}
use Rattle.go_package_defs.specs.Verdicts.{expression_faults, specification_rule}

-- No rule fails in its type and its expressions, nor at the specification itself.
pub record RulesHold (p : Package) (os : List Outline) (found : List State) (d : Specification) : Type 0 where
  pub fine : expression_faults (free_scope p os found d) d ≡ []
  pub ruled : specification_rule (free_scope p os found d) d ≡ []

-- So it is at all specifications, blocked or not.
abbrev pub AllRulesHold : Package → List Outline → List State → List Specification → Type 0
AllRulesHold p os found ds = AllByRecursion (RulesHold p os found) ds
