use Rattle.std.proofs.Common.{◌≡◌, drop}
use Rattle.std.specs.HashMap as hash
use Rattle.go_needs.specs.Bounds.{are_bounded}
use Rattle.go_scopes_cycles.specs.Ranks.{same_place}
use Rattle.go_needs.proofs.bounds.are_bounded.Given as goal

abbrev pub invariant-loop-number : goal.invariant-loop-number
invariant-loop-number l = are_bounded (hash.get same_place l.nearest) l.top l.ranks l.bounds l.number (drop l.number l.owners) ≡ are_bounded (hash.get same_place l.nearest) l.top l.ranks l.bounds 0 l.owners
