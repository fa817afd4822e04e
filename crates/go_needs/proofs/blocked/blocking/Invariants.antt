use Rattle.std.proofs.Common.{◌≡◌, ◌++◌, drop}
use Rattle.std.specs.HashMap as hash
use Rattle.go_needs.specs.Blocked.{blocking}
use Rattle.go_scopes_cycles.specs.Ranks.{same_place}
use Rattle.go_needs.proofs.blocked.blocking.Given as goal

abbrev pub invariant-loop-number : goal.invariant-loop-number
invariant-loop-number l =
    l.all.items ++ blocking (hash.get same_place l.needing) l.groups l.own l.faulty l.assigning l.number (drop l.number l.declaring)
    ≡ blocking (hash.get same_place l.needing) l.groups l.own l.faulty l.assigning 0 l.declaring
