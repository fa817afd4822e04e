use Rattle.std.proofs.Common.{◌≡◌, drop}
use Rattle.std.specs.HashMap as hash
use Rattle.go_needs.specs.Levels.{are_settled}
use Rattle.go_scopes_cycles.specs.Ranks.{same_place}
use Rattle.go_needs.proofs.levels.are_settled.Given as goal

abbrev pub invariant-loop-number : goal.invariant-loop-number
invariant-loop-number l = are_settled (hash.get same_place l.nearest) l.levels l.fails l.bound l.number (drop l.number l.owners) ≡ are_settled (hash.get same_place l.nearest) l.levels l.fails l.bound 0 l.owners
