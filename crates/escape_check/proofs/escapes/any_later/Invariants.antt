use Rattle.std.proofs.Common.{◌≡◌, drop}
use Rattle.std.specs.List.{list_any}
use Rattle.go_typed.specs.Packages.{PackageView}
use Rattle.param_choose.specs.Members.{occurs_later}
use Rattle.escape_check.specs.Shown.{IsSound, member_view}
use Rattle.escape_check.proofs.escapes.any_later.Given as goal

abbrev pub invariant-loop-local : goal.invariant-loop-local
invariant-loop-local l =
    (p : PackageView) → IsSound p l.member
    → list_any (occurs_later (member_view l.member)) l.locals ≡ list_any (occurs_later (member_view l.member)) (drop l.local-index l.locals)
