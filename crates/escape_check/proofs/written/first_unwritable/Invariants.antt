use Rattle.std.proofs.Common.{◌≡◌, ◌-◌, Bool, ◌&&◌, ◌||◌, not, nat_eq}
use Rattle.std.specs.HashSet as set
use Rattle.go_typed.specs.declared.walk.LocalUse.{LocalUse}
use Rattle.go_typed.specs.Windows.{uses_from}
use Rattle.param_choose.specs.Holes.{is_outer}
use Rattle.param_choose.specs.Members.{uses_within}
use Rattle.escape_check.specs.Firsts.{first_where}
use Rattle.escape_check.specs.Names.{is_free}
use Rattle.escape_check.specs.Shown.{member_view}
use Rattle.escape_check.proofs.written.first_unwritable.Given as goal

abbrev pub invariant-loop-token : goal.invariant-loop-token
invariant-loop-token l =
    let m = member_view l.member in
    let fails : LocalUse → Bool = λ (u : LocalUse). (is_outer m u && not (set.contains nat_eq l.holes u.token)) || (is_free m u.local && set.contains nat_eq l.closed u.token) in
    first_where fails (uses_within m) ≡ first_where fails (uses_from l.member.func.now.tokens l.token (l.member.upto - l.token))
