use Rattle.std.proofs.Common.{◌≡◌, ℕ, Bool, ◌-◌, ◌&&◌, ◌++◌, not, nat_lt, slice_get, map, drop}
use Rattle.std.specs.List.{list_any}
use Rattle.go_typed.specs.declared.walk.LocalUse.{LocalUse}
use Rattle.go_typed.specs.Windows.{uses_from}
use Rattle.clone_window.specs.Sameness.{sort_at, standing}
use Rattle.param_choose.specs.Holes.{Hole}
use Rattle.param_choose.specs.Marks.{parameters_by}
use Rattle.param_choose.specs.Members.{declared_between}
use Rattle.param_choose.specs.Handed.{handed_hole, hole_shown}
use Rattle.param_choose.specs.Shown.{holes_view}
use Rattle.param_choose.proofs.choice.hole_parameters.Given as goal

abbrev pub invariant-loop-hole : goal.invariant-loop-hole
invariant-loop-hole l =
    let fixed : LocalUse → Bool = λ u. nat_lt 1 (standing (sort_at l.func.locals u.local)) && not (declared_between l.extent.first l.extent.from l.extent.upto (slice_get l.declared u.local)) in
    let outer : Hole ℕ → Bool = λ h. list_any fixed (uses_from l.func.tokens h.from (h.upto - h.from)) in
    (map handed_hole (parameters_by outer l.extent.start l.marks 0 (holes_view l.holes))
    ≡ map hole_shown l.out.items ++ map handed_hole (parameters_by outer l.extent.start l.marks l.index (holes_view (drop l.hole-index l.holes))))
    × (l.index ≡ l.hole-index)
