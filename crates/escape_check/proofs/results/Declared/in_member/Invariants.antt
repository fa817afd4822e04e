use Rattle.std.proofs.Common.{◌≡◌, ◌++◌, map, drop}
use Rattle.param_choose.specs.Members.{local_at}
use Rattle.escape_check.specs.Shown.{KnowsPlaces, member_view}
use Rattle.escape_check.proofs.results.Declared.in_member.Given as goal

abbrev pub invariant-loop-local : goal.invariant-loop-local
invariant-loop-local l =
    KnowsPlaces l.self
    → map (local_at (member_view l.self.template.now) (member_view l.member)) l.self.locals.now
    ≡ l.locals.items ++ map (local_at (member_view l.self.template.now) (member_view l.member)) (drop l.local-index l.self.locals.now)
