use Rattle.std.proofs.Common.{◌≡◌, ℕ, drop}
use Rattle.std.specs.HashMap as hash
use Rattle.go_scopes_lookup.specs.Tables.{same_spot}
use Rattle.go_declarations.specs.Views.{seen_all}
use Rattle.go_needs.specs.Declaring.{declaring_from}
use Rattle.go_needs.proofs.declaring.table_of.Given as goal

abbrev pub invariant-loop-number : goal.invariant-loop-number
invariant-loop-number l = (n t : ℕ) → hash.get same_spot l.table (n, t) ≡ declaring_from l.number n t (seen_all (drop l.number l.specifications))
