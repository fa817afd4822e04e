use Rattle.std.proofs.Common.{◌≡◌, drop}
use Rattle.std.specs.HashMap as hash
use Rattle.go_scopes_cycles.specs.Ranks.{same_place}
use Rattle.go_needs.specs.Ranks.{are_lower}
use Rattle.go_needs.proofs.ranked.are_lower.Given as goal

abbrev pub invariant-loop-number : goal.invariant-loop-number
invariant-loop-number l =
    are_lower (hash.get same_place l.tried.nearest.now) l.tried.levels.now l.tried.grades.now l.tried.ranks.now l.faulty l.assigning l.number (drop l.number l.owners)
    ≡ are_lower (hash.get same_place l.tried.nearest.now) l.tried.levels.now l.tried.grades.now l.tried.ranks.now l.faulty l.assigning 0 l.owners
