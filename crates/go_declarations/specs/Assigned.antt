-- What a declared name stands for, as the program holds it.
use Rattle.std.specs.Prelude.{◌≡◌, ℕ}
use Rattle.go_types.specs.Tables.{Table}
use Rattle.go_typed.specs.Views.{sort_seen, KnownSort}
use Rattle.go_exprs_rules.specs.Faults.{least}
use Rattle.go_package_defs.specs.Verdicts.{Assigned}
use Rattle.go_declarations.specs.declared.assigning.Assigned as program

-- the same in a table, with the least of the faults
pub record ShowsAssigned (t : Table) (a : program.Assigned) (b : Assigned) : Type 0 where
  pub stands : sort_seen t a.stands ≡ b.stands
  pub failing : a.failing ≡ least b.failing

abbrev pub KnownAssigned : ℕ → program.Assigned → Type 0
KnownAssigned n a = KnownSort n a.stands
