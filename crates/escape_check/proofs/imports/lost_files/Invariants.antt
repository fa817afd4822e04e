use Rattle.std.proofs.Common.{◌≡◌, ℕ, ◌&&◌, not, nat_eq}
use Rattle.std.specs.Prelude.{nat_lt, slice_get}
use Rattle.std.specs.HashSet as set
use Rattle.go_scopes_lookup.specs.Views.{units_view}
use Rattle.escape_check.specs.Lookups.{imports}
use Rattle.escape_check.proofs.imports.lost_files.Given as goal

abbrev pub invariant-loop-file : goal.invariant-loop-file
invariant-loop-file l =
    (n : ℕ) → set.contains nat_eq l.lost n ≡ (nat_lt n l.file && (imports (slice_get (units_view l.units) n) && not (set.contains nat_eq l.kept n)))
