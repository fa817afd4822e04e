use Rattle.std.proofs.Common.{◌≡◌, ◌<◌, Some, length, sym, ap, subst, ◌∙◌}
use Rattle.std.specs.Prelude.{slice_get}
use Rattle.go_types.specs.Changes.{table_of}
use Rattle.go_types.specs.Waiting.{AreWaiting}
use Rattle.go_types.proofs.Containment.{held_within}
use Rattle.go_types.proofs.Awakening.{unknown_from}
use Rattle.go_types.proofs.waking.learn.Goals as goal

pub returns-clause-watched : goal.returns-clause-watched
returns-clause-watched c =
    let t = table_of c.args.shapes.now c.args.definitions.now in
    record {
      waiting = subst (AreWaiting t c.visits.verdicts) (sym c.in_default.ensures.same) c.visits.invariant.waiting;
      unknown = λ i p e.
          let there : slice_get c.visits.waits i ≡ Some (Some p) = ap (λ l. slice_get l i) (sym c.in_default.ensures.same) ∙ e in
          let low : p < length c.visits.verdicts = subst (λ n. p < n) (sym c.visits.invariant.kept.places) (held_within t c.visits.invariant.kept.resolved.table i p (c.visits.invariant.waiting.held i p there)) in
          unknown_from c.visits.verdicts p low (c.in_default.ensures.none i (Some p) there);
    }
