use Rattle.std.proofs.Common.{[], ◌∷◌, ◌++◌, Some, sym, subst}
use Rattle.clone_classes.specs.Ends.{EndsAt, IsEnd}
use Rattle.clone_classes.proofs.Ends.{one_more}
use Rattle.clone_classes.proofs.taken.Taken.push.Goals as goal

pub invariant_of-self-2 : goal.invariant_of-self-2
invariant_of-self-2 c =
    let ps = c.self.inside.places.items in
    let ended = one_more c.self.inside.end c.args.place ps c.self.invariant in
    subst (IsEnd c.further-end.result) (sym c.in_ok-push.ensures.items) (subst (λ e. EndsAt (Some e) (ps ++ c.args.place ∷ [])) (sym c.further-end.ensures) ended)
