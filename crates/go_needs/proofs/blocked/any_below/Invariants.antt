use Rattle.std.proofs.Common.{◌≡◌}
use Rattle.std.specs.HashMap as hash
use Rattle.go_needs.specs.Blocked.{any_below}
use Rattle.go_scopes_cycles.specs.Ranks.{same_place}
use Rattle.go_needs.proofs.blocked.any_below.Given as goal

abbrev pub invariant-loop-column : goal.invariant-loop-column
invariant-loop-column l = any_below (hash.get same_place l.nearest) l.root l.columns ≡ any_below (hash.get same_place l.nearest) l.root l.column
