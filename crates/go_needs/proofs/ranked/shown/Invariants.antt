use Rattle.std.proofs.Common.{◌≡◌, ◌++◌, drop}
use Rattle.std.specs.HashMap as hash
use Rattle.go_scopes_cycles.specs.Ranks.{same_place}
use Rattle.go_needs.specs.Ranks.{shown}
use Rattle.go_needs.proofs.ranked.shown.Given as goal

abbrev pub invariant-loop-number : goal.invariant-loop-number
invariant-loop-number l =
    l.all.items ++ shown (hash.get same_place l.tried.nearest.now) l.tried.grades.now l.bound l.tried.ranks.now l.ranks l.number (drop l.number l.groups)
    ≡ shown (hash.get same_place l.tried.nearest.now) l.tried.grades.now l.bound l.tried.ranks.now l.ranks 0 l.groups
