use Rattle.std.proofs.Common.{sym, ap, ◌∙◌, ◌+◌, drop, add-one, arith}
use Rattle.go_meaning.specs.Operations.{picked}
use Rattle.go_meaning.specs.Values.{nth}
use Rattle.go_values.specs.Views.{views}
use Rattle.go_eval_operations.proofs.Picking.{next_taken, next_kept}
use Rattle.go_eval_operations.proofs.picks.picked.Goals as goal
use Rattle.go_eval_operations.proofs.picks.picked.Goals.{then-holds, else-holds}

pub loop-place-preserved : goal.loop-place-preserved
loop-place-preserved c =
    let o = c.args.comparison in
    let vs = c.args.operands.now in
    let l = c.loop-place in
    let x = c.index-operands-place in
    let y = c.index-operands-best in
    elim c.if-holds.branch [
      | then-holds w ↦ record {
        rest = ap (λ i. picked o (nth (views vs) i) (drop (l.place + 1) (views vs))) w.best-is
            ∙ (ap (λ k. picked o (nth (views vs) l.place) (drop k (views vs))) (add-one l.place)
            ∙ (sym (next_taken o vs l.best l.place x.result y.result x.is y.is (omega (arith, c.loop-place-test.true)) l.invariant.before (sym c.holds.ensures ∙ w.if-holds.true)) ∙ l.invariant.rest));
        before = omega (arith, w.best-is);
      }
      | else-holds w ↦ record {
        rest = ap (λ i. picked o (nth (views vs) i) (drop (l.place + 1) (views vs))) w.best-is
            ∙ (ap (λ k. picked o (nth (views vs) l.best) (drop k (views vs))) (add-one l.place)
            ∙ (sym (next_kept o vs l.best l.place x.result y.result x.is y.is (omega (arith, c.loop-place-test.true)) l.invariant.before (sym c.holds.ensures ∙ w.if-holds.false)) ∙ l.invariant.rest));
        before = omega (arith, w.best-is, l.invariant.before);
      }
    ]
