use Rattle.std.proofs.Common.{◌≡◌}
use Rattle.std.specs.HashMap as hash
use Rattle.go_scopes_cycles.specs.Ranks.{same_place}
use Rattle.go_needs.specs.Ranks.{any_under}
use Rattle.go_needs.proofs.ranked.any_under.Given as goal

abbrev pub invariant-loop-column : goal.invariant-loop-column
invariant-loop-column l =
    any_under (hash.get same_place l.tried.nearest.now) l.tried.grades.now l.bound l.rank l.root l.columns
    ≡ any_under (hash.get same_place l.tried.nearest.now) l.tried.grades.now l.bound l.rank l.root l.column
