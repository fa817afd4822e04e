-- What the objects of a package stand for that type-checks.
use Rattle.std.specs.Prelude.{◌≡◌, ℕ, false, slice_get, Some}
use Rattle.go_typed.specs.declared.form.Referent.TheVariants as referent
use Rattle.go_exprs_rules.specs.Sorts.{Stands, is_open}
use Rattle.go_package_defs.specs.Answer.{Environment}
use Rattle.go_package_defs.specs.Knowledge.{referent_at}
use Rattle.go_package_defs.specs.Sources.{Package}
use Rattle.go_stmts_final_types.specs.Placed.{IsKnownObject}

-- All objects of the package stand for something known, constants for values of their types' families, and variables have types.
pub record ObjectsAreKnown (p : Package) (e : Environment) : Type 0 where
  pub each : (n : ℕ) (x : Stands) → slice_get e.objects n ≡ Some x → IsKnownObject e.rights x
  pub typed : (n k : ℕ) (x : Stands) → slice_get e.objects n ≡ Some x → referent_at p n ≡ referent.Variable k → is_open x ≡ false
