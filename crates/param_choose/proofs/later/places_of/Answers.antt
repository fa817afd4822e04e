use Rattle.std.proofs.Common.{◌∙◌, sym, ap, nat_eq}
use Rattle.std.specs.HashMap.{get}
use Rattle.param_choose.proofs.Ends.{place_kept, place_put}
use Rattle.param_choose.proofs.later.places_of.Goals as goal
use Rattle.param_choose.proofs.later.places_of.Goals.{then-not-contains_key+in_ok-insert, else-not-contains_key}

pub loop-index-preserved : goal.loop-index-preserved
loop-index-preserved c = λ n.
    let ns = c.args.locals.now in
    let i = c.loop-index.index in
    elim c.if-not-contains_key.branch [
      | then-not-contains_key+in_ok-insert w ↦
          ap (λ m. get nat_eq m n) w.places-is
          ∙ place_put (get nat_eq c.loop-index.places) (get nat_eq w.insert.new.self) ns i c.loop-index-test.true c.loop-index.invariant
          (sym c.contains_key.ensures ∙ w.if-not-contains_key.true) (λ k. w.in_ok-insert.ensures.updates.0 k) n
      | else-not-contains_key w ↦
          ap (λ m. get nat_eq m n) w.places-is
          ∙ place_kept (get nat_eq c.loop-index.places) ns i c.loop-index-test.true c.loop-index.invariant (sym c.contains_key.ensures ∙ w.if-not-contains_key.false) n
    ]
