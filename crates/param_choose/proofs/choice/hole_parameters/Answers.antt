use Rattle.std.proofs.Common.{◌≡◌, ℕ, Bool, ◌+◌, ◌-◌, ◌&&◌, not, nat_lt, map, sym, ap, ◌∙◌, slice_get}
use Rattle.std.specs.List.{list_any}
use Rattle.go_typed.specs.declared.walk.LocalUse.{LocalUse as Use}
use Rattle.go_typed.specs.Windows.{uses_from}
use Rattle.clone_window.specs.Sameness.{sort_at, standing}
use Rattle.param_choose.specs.Holes.{Hole as Constant}
use Rattle.param_choose.specs.Marks.{mark_at}
use Rattle.param_choose.specs.Members.{declared_between}
use Rattle.param_choose.specs.Handed.{hole_shown}
use Rattle.param_choose.specs.Shown.{hole_view}
use Rattle.param_choose.proofs.Additions.{hole_left, hole_taken, or_marked, or_tested}
use Rattle.param_choose.proofs.choice.hole_parameters.Goals as goal
use Rattle.param_choose.proofs.choice.hole_parameters.Goals.{then-mark_at+in_ok-push_hole, then-mark_at-via-then-mark_at, then-mark_at-via-else-mark_at+then-names_outer, else-mark_at+else-names_outer}

pub loop-hole-preserved : goal.loop-hole-preserved
loop-hole-preserved c =
    let f = c.args.func.now in
    let x = c.args.extent in
    let fixed : Use → Bool = λ u. nat_lt 1 (standing (sort_at f.locals u.local)) && not (declared_between x.first x.from x.upto (slice_get c.args.declared.now u.local)) in
    let outer : Constant ℕ → Bool = λ h. list_any fixed (uses_from f.tokens h.from (h.upto - h.from)) in
    let bs = c.args.marks.now in
    let i = c.loop-hole.index in
    let h = c.hole-item.result in
    let before = map hole_shown c.loop-hole.out.items in
    let now = map hole_shown c.if-mark_at.out.items in
    let old = c.loop-hole.invariant.0 in (
      elim c.if-mark_at.branch [
        | then-mark_at+in_ok-push_hole w ↦
            hole_taken outer x.start bs c.args.holes.now i c.loop-hole.hole-index h _ before now c.loop-hole-test.true c.hole-item.is
            (elim w.then-mark_at.branch [
              | then-mark_at-via-then-mark_at v ↦ or_marked (mark_at bs i) (outer (hole_view h)) (sym c.mark_at.ensures ∙ v.if-mark_at.true)
              | then-mark_at-via-else-mark_at+then-names_outer v ↦
                  or_tested (mark_at bs i) (outer (hole_view h)) _ (sym c.mark_at.ensures ∙ v.if-mark_at.false) (sym v.names_outer.ensures ∙ v.if-names_outer.true)
            ])
            (ap (λ v. map hole_shown v.items) w.out-is ∙ w.in_ok-push_hole.ensures)
            old
        | else-mark_at+else-names_outer w ↦
            hole_left outer x.start bs c.args.holes.now i c.loop-hole.hole-index h _ before now c.loop-hole-test.true c.hole-item.is
            (or_tested (mark_at bs i) (outer (hole_view h)) _ (sym c.mark_at.ensures ∙ w.if-mark_at.false) (sym w.names_outer.ensures ∙ w.if-names_outer.false))
            (ap (λ v. map hole_shown v.items) w.out-is)
            old
      ],
      ap (λ n. n + 1) c.loop-hole.invariant.1,
    )
