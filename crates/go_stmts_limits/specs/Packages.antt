-- Packages whose package block is within the limit on scalars.
use Rattle.std.specs.Prelude.{◌≡◌, List, [], ◌∷◌}
use Rattle.go_typed.specs.Contents.{FuncContent}
use Rattle.go_exprs_rules.specs.Scopes.{Scope}
use Rattle.go_package_defs.specs.Answer.{Environment}
use Rattle.go_stmts_limits.specs.Limits.{AllStandWithin, RightsAreWithin, FunctionIsWithin}

-- The limit is judged by the right sides of the types of the package block, and these and all that its objects stand for are within it.
pub record EnvironmentIsWithin (limit : Scope) (e : Environment) : Type 0 where
  pub judged : limit.rights ≡ e.rights
  pub rights : RightsAreWithin limit e.rights
  pub objects : AllStandWithin limit e.objects

abbrev pub AllFunctionsWithin : Scope → List FuncContent → Type 0
AllFunctionsWithin limit [] = Unit {0}
AllFunctionsWithin limit (f ∷ fs) = FunctionIsWithin limit f × AllFunctionsWithin limit fs
