use Rattle.std.proofs.Common.{◌≡◌, ℕ, drop}
use Rattle.std.specs.HashMap as hash
use Rattle.go_scopes_lookup.specs.Tables.{same_spot}
use Rattle.go_needs.specs.Declaring.{over_names}
use Rattle.go_needs.proofs.declaring.add_names.Given as goal

abbrev pub invariant-loop-column : goal.invariant-loop-column
invariant-loop-column l = (n t : ℕ) → hash.get same_spot l.table (n, t) ≡ over_names l.specification l.file n t l.column (drop l.column l.names) (hash.get same_spot l.fn.table (n, t))
