-- What holds of the declarations of packages that type-check.
use Rattle.std.specs.Prelude.{List, map}
use Rattle.go_tree.specs.Uses.{uses}
use Rattle.go_typed.specs.Contents.{Content}
use Rattle.go_exprs_rules.specs.Scopes.{Scope}
use Rattle.go_stmts_limits.specs.Packages.{EnvironmentIsWithin, AllFunctionsWithin}
use Rattle.go_package_defs.specs.Answer.{Environment, specifications}
use Rattle.go_package_defs.specs.Knowledge.{outlines}
use Rattle.go_package_defs.specs.Sources.{Source, package_of, unit_of}
use Rattle.go_package_settled.specs.Ordered.{IsSettled}
use Rattle.go_package_settled.specs.Read.{IsFaultless}

-- Its names are free of faults, and what its objects stand for is known by stages.
pub record HasSettled (ss : List Source) : Type 0 where
  pub faultless : IsFaultless ss
  pub settled : let p = package_of ss (uses (map unit_of ss)) in IsSettled p (outlines p (specifications 0 ss))

-- Its package block, and all its functions, are within the limit on scalars.
pub record PackageIsWithin (limit : Scope) (e : Environment) (c : Content) : Type 0 where
  pub environment : EnvironmentIsWithin limit e
  pub functions : AllFunctionsWithin limit c.functions
