-- What stands behind the names of a specification.
use Rattle.std.proofs.Common.{◌≡◌, ◌∷◌, ◌++◌, [], Option, Some, None, cond, refl}
use Rattle.go_exprs_rules.specs.Settling.{Part}
use Rattle.go_exprs_rules.specs.Tables.{held}
use Rattle.go_stmts_defs.specs.Laying.{is_values, typed_or_not}

pub typed_or_not_is : (x : Option Part) → typed_or_not x ≡ cond (is_values x) (None ∷ held x) (held x)
typed_or_not_is None = refl
typed_or_not_is (Some x) = refl
