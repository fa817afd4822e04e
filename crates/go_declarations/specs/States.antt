-- What is found of one declared name, as the program holds it.
use Rattle.std.specs.Prelude.{◌≡◌, ℕ}
use Rattle.go_types.specs.Tables.{Table}
use Rattle.go_typed.specs.Views.{sort_seen, KnownSort}
use Rattle.go_exprs_rules.specs.Faults.{least}
use Rattle.go_package_defs.specs.Knowledge.{State}
use Rattle.go_declarations.specs.declared.judging.Verdict.{Verdict}

-- the same in a table, with the least of the faults; it is no type, which alone has a right side
pub record ShowsState (t : Table) (v : Verdict) (s : State) : Type 0 where
  pub stands : sort_seen t v.stands ≡ s.stands
  pub fault : v.fault ≡ least s.faults
  pub assigning : v.assigning ≡ least s.assigning

abbrev pub KnownVerdict : ℕ → Verdict → Type 0
KnownVerdict n v = KnownSort n v.stands
