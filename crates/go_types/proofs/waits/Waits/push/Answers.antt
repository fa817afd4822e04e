use Rattle.std.proofs.Common.{None, ◌++◌, ◌∷◌, [], subst, sym}
use Rattle.go_types.specs.Waiting.{AreCounted}
use Rattle.go_types.proofs.Waiters.{counted_longer}
use Rattle.go_types.proofs.waits.Waits.push.Goals as goal

pub invariant_of-self-in-Ok : goal.invariant_of-self-in-Ok
invariant_of-self-in-Ok c =
    subst (λ x. AreCounted x c.push-2.new.self.items) (sym c.in-Ok.ensures.items)
    (subst (AreCounted (c.self.inside.awaited.items ++ None ∷ [])) (sym c.in_ok-push-2.ensures.items)
    (counted_longer c.self.inside.awaited.items c.self.inside.counts.items c.self.invariant))
