use Rattle.std.proofs.Common.{◌≡◌, ℕ, ◌||◌, drop}
use Rattle.std.specs.HashSet as set
use Rattle.go_scopes_lookup.specs.Tables.{same_spot}
use Rattle.go_needs.specs.Owners.{has_source}
use Rattle.go_needs.proofs.owners.sources_of.Given as goal

abbrev pub invariant-loop-o : goal.invariant-loop-o
invariant-loop-o l = (n s : ℕ) → (set.contains same_spot l.sources (n, s) || has_source (drop l.o-index l.owners) n s) ≡ has_source l.owners n s
