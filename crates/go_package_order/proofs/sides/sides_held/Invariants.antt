use Rattle.std.proofs.Common.{◌≡◌, ℕ, ◌++◌, drop}
use Rattle.go_types.specs.Tables.{Table}
use Rattle.go_package_rounds.specs.Held.{AllHeld}
use Rattle.go_package_rounds.specs.Rights.{rights_held}
use Rattle.go_package_order.specs.Progress.{KnownRights, sides}
use Rattle.go_package_order.proofs.sides.sides_held.Given as goal

abbrev pub invariant-loop-number : goal.invariant-loop-number
invariant-loop-number l =
    ((n : ℕ) → AllHeld n l.all → KnownRights n l.rights.items)
    × ((t : Table) → sides t l.rights.items ++ rights_held t (drop l.number l.objects) (drop l.number l.all) ≡ rights_held t l.objects l.all)
