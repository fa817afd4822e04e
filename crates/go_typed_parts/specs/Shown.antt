-- What the program's counts of objects show.
use Rattle.std.specs.Prelude.{ℕ, ◌≤◌}
use Rattle.go_typed.specs.Packages as specs
use Rattle.go_typed_parts.specs.declared.objects.Counts.{Counts}

abbrev pub counts_view : Counts → specs.Counts
counts_view c = record { constants = c.constants; types = c.types; variables = c.variables; functions = c.functions }

-- None is above n.
abbrev pub AreAtMost : ℕ → Counts → Type 0
AreAtMost n c = (c.constants ≤ n) × (c.types ≤ n) × (c.variables ≤ n) × (c.functions ≤ n)
