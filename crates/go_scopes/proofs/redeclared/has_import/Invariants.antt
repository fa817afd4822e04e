use Rattle.std.proofs.Common.{◌≡◌, drop}
use Rattle.go_tree.specs.Redeclared.{has_import}
use Rattle.go_scopes_lookup.specs.Views.{units_view}
use Rattle.go_scopes.proofs.redeclared.has_import.Given as goal

abbrev pub invariant-loop-unit : goal.invariant-loop-unit
invariant-loop-unit l = has_import (units_view (drop l.unit-index l.units)) ≡ has_import (units_view l.units)
