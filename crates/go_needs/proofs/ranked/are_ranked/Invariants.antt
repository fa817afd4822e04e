use Rattle.std.proofs.Common.{◌≡◌, drop}
use Rattle.std.specs.HashMap as hash
use Rattle.go_scopes_cycles.specs.Ranks.{same_place}
use Rattle.go_needs.specs.Ranks.{are_ranked}
use Rattle.go_needs.proofs.ranked.are_ranked.Given as goal

abbrev pub invariant-loop-number : goal.invariant-loop-number
invariant-loop-number l = are_ranked (hash.get same_place l.nearest) l.top l.ranks l.number (drop l.number l.groups) ≡ are_ranked (hash.get same_place l.nearest) l.top l.ranks 0 l.groups
