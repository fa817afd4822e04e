use Rattle.std.proofs.Common.{◌≡◌, ◌++◌, map, drop}
use Rattle.go_typed.specs.Packages.{PackageView}
use Rattle.param_choose.specs.Locals.{variables_where}
use Rattle.param_choose.specs.Members.{occurs_later}
use Rattle.param_choose.specs.Shown.{variable_view}
use Rattle.escape_check.specs.Shown.{IsSound, member_view}
use Rattle.extract_texts.proofs.call.later_among.Given as goal

abbrev pub invariant-loop-local : goal.invariant-loop-local
invariant-loop-local l = (p : PackageView) → IsSound p l.member →
    map variable_view l.later.items ++ variables_where l.member.func.now.locals (occurs_later (member_view l.member)) (drop l.local-index l.locals)
    ≡ variables_where l.member.func.now.locals (occurs_later (member_view l.member)) l.locals
