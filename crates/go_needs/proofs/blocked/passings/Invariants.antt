use Rattle.std.proofs.Common.{◌≡◌, ◌++◌, drop}
use Rattle.std.specs.HashMap as hash
use Rattle.go_needs.specs.Blocked.{passings}
use Rattle.go_scopes_cycles.specs.Ranks.{same_place}
use Rattle.go_needs.proofs.blocked.passings.Given as goal

abbrev pub invariant-loop-number : goal.invariant-loop-number
invariant-loop-number l = l.all.items ++ passings (hash.get same_place l.nearest) l.tests l.number (drop l.number l.owners) ≡ passings (hash.get same_place l.nearest) l.tests 0 l.owners
