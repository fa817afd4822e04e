use Rattle.std.proofs.Common.{◌≡◌, ◌-◌, Bool, nat_eq, length}
use Rattle.std.specs.HashSet as set
use Rattle.go_typed.specs.declared.walk.LocalUse.{LocalUse}
use Rattle.go_typed.specs.Windows.{uses_from}
use Rattle.escape_check.specs.Firsts.{first_where}
use Rattle.escape_check.specs.Names.{uses_behind}
use Rattle.escape_check.specs.Shown.{member_view}
use Rattle.escape_check.proofs.escapes.first_escape.Given as goal

abbrev pub invariant-loop-token : goal.invariant-loop-token
invariant-loop-token l =
    let escapes : LocalUse → Bool = λ (u : LocalUse). set.contains nat_eq l.locals u.local in
    let tokens = l.member.func.now.tokens in
    first_where escapes (uses_behind (member_view l.member)) ≡ first_where escapes (uses_from tokens l.token (length tokens - l.token))
