use Rattle.std.proofs.Common.{◌≡◌, ◌≤◌, ◌<◌, ℕ, Some, length, take, ap, subst, sym, ◌∙◌}
use Rattle.std.specs.Prelude.{slice_get}
use Rattle.go_types.specs.Waiting.{AreCounted}
use Rattle.go_types.proofs.Places.{take_get, get_take}
use Rattle.go_types.proofs.Waiters.{written_back, counted_first}
use Rattle.go_types.proofs.waits.Waits.truncate.Goals as goal

long : (c : goal.After-truncate-2) → length c.leave_from.new.awaited ≡ length c.self.inside.awaited.items
long c = c.leave_from.auto.awaited ∙ ap length c.deref_mut.ensures.value

closed : (c : goal.After-truncate-2) → (i p : ℕ) → i < c.args.count → slice_get c.leave_from.new.awaited i ≡ Some (Some p) → p < c.args.count
closed c i p lt e =
    let front = ap (λ l. slice_get l i) (sym c.leave_from.ensures.front) ∙ take_get c.args.count c.leave_from.new.awaited i (Some p) e lt in
    let before = (get_take c.args.count c.deref_mut.result.now i (Some p) front).0 in
    c.requires.closed i p lt (ap (λ l. slice_get l i) (sym (c.deref_mut.ensures.value ∙ c.self.view_is)) ∙ before)

pub invariant_of-self : goal.invariant_of-self
invariant_of-self c =
    let whole = written_back c.self.inside.awaited.len c.leave_from.new.awaited c.self.inside.awaited.items (long c ∙ sym c.self.inside.awaited.ok.0) (sym c.self.inside.awaited.ok.0) in
    let counts = written_back c.self.inside.counts.len c.leave_from.new.counts c.self.inside.counts.items (c.leave_from.auto.counts ∙ (ap length c.deref_mut-2.ensures.value ∙ sym c.self.inside.counts.ok.0)) (sym c.self.inside.counts.ok.0) in
    let size = ap length c.self.view_is in
    let within = c.requires.within in
    subst (λ x. AreCounted x c.truncate-2.new.self.items) (sym (c.truncate.ensures.items ∙ ap (take c.args.count) whole))
    (subst (AreCounted (take c.args.count c.leave_from.new.awaited)) (sym (c.truncate-2.ensures.items ∙ ap (take c.args.count) counts))
    (counted_first c.args.count c.leave_from.new.awaited c.leave_from.new.counts c.leave_from.ensures.counted (subst (λ m. c.args.count ≤ m) (sym (long c ∙ size)) within) (closed c) c.leave_from.ensures.free))
