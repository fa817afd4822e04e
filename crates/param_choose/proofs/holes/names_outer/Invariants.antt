use Rattle.std.proofs.Common.{◌≡◌, Bool, ◌-◌, ◌&&◌, not, nat_lt, slice_get}
use Rattle.std.specs.List.{list_any}
use Rattle.go_typed.specs.declared.walk.LocalUse.{LocalUse}
use Rattle.go_typed.specs.Windows.{uses_from}
use Rattle.clone_window.specs.Sameness.{sort_at, standing}
use Rattle.param_choose.specs.Members.{declared_between}
use Rattle.param_choose.proofs.holes.names_outer.Given as goal

abbrev pub invariant-loop-token : goal.invariant-loop-token
invariant-loop-token l =
    let outer : LocalUse → Bool = (λ (u : LocalUse). nat_lt 1 (standing (sort_at l.func.locals u.local)) && not (declared_between l.extent.first l.extent.from l.extent.upto (slice_get l.declared u.local))) in
    list_any outer (uses_from l.func.tokens l.from (l.upto - l.from)) ≡ list_any outer (uses_from l.func.tokens l.token (l.upto - l.token))
