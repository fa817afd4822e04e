use Rattle.std.proofs.Common.{◌≡◌, map, drop}
use Rattle.escape_check.specs.Places.{each_refused, refused_from}
use Rattle.escape_check.specs.Shown.{member_view}
use Rattle.escape_check.proofs.rule.first_refused.Given as goal

abbrev pub invariant-loop-number : goal.invariant-loop-number
invariant-loop-number g l =
    each_refused l.code (g.R.MemberRule.places l.rule l.checked) (map member_view l.members)
    ≡ refused_from l.code (g.R.MemberRule.places l.rule l.checked) l.number (map member_view (drop l.number l.members))
