use Rattle.std.proofs.Common.{◌+◌, get_or, map, refl, sym, ap, ◌∙◌}
use Rattle.param_choose.specs.Shown.{variable_view}
use Rattle.param_choose.proofs.Additions.{variable_left, variable_taken}
use Rattle.param_choose.proofs.choice.variables_by.Goals as goal
use Rattle.param_choose.proofs.choice.variables_by.Goals.{then-mark_at+in_ok-push_variable, else-mark_at}

pub loop-local-preserved : goal.loop-local-preserved
loop-local-preserved c =
    let sorts = c.args.func.now.locals in
    let bs = c.args.marks.now in
    let ks = c.args.locals.now in
    let i = c.loop-local.index in
    let j = c.loop-local.local-index in
    let before = map variable_view c.loop-local.out.items in
    let now = map variable_view c.if-mark_at.out.items in
    let old = c.loop-local.invariant.0 in (
      elim c.if-mark_at.branch [
        | then-mark_at+in_ok-push_variable w ↦
            variable_taken sorts bs ks i j (get_or ks j 0) 0 _ before now c.loop-local-test.true refl (sym c.mark_at.ensures ∙ w.if-mark_at.true)
            (ap (λ v. map variable_view v.items) w.out-is ∙ w.in_ok-push_variable.ensures) old
        | else-mark_at w ↦
            variable_left sorts bs ks i j (get_or ks j 0) 0 _ before now c.loop-local-test.true refl (sym c.mark_at.ensures ∙ w.if-mark_at.false)
            (ap (λ v. map variable_view v.items) w.out-is) old
      ],
      ap (λ n. n + 1) c.loop-local.invariant.1,
    )
