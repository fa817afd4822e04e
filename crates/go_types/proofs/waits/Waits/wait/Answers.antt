use Rattle.std.proofs.Common.{◌≡◌, Some, None, length, take, drop, ◌++◌, ap, sym, ◌∙◌}
use Rattle.std.specs.Prelude.{slice_set}
use Rattle.std.proofs.lemmas.List.{length-set}
use Rattle.go_types.proofs.Waiters.{written_back, set_twice}
use Rattle.go_types.proofs.waits.Waits.wait.Goals as goal

pub returns : goal.returns
returns c =
    let n = c.self.inside.awaited.len in
    let items = c.self.inside.awaited.items in
    let a = c.args.a in
    let size : length items ≡ n = sym c.self.inside.awaited.ok.0 in
    let left : c.leave.new.awaited ≡ slice_set items a None = c.leave.ensures.awaited ∙ ap (λ l. slice_set l a None) c.deref_mut.ensures.value in
    let left_size : length c.leave.new.awaited ≡ n = ap length left ∙ (length-set items a None ∙ size) in
    let back = written_back n c.leave.new.awaited items left_size size in
    let joined : c.join.new.awaited ≡ slice_set (slice_set items a None) a (Some c.args.part) = c.join.ensures.awaited ∙ ap (λ l. slice_set l a (Some c.args.part)) (c.deref_mut-3.ensures.value ∙ (back ∙ left)) in
    let joined_size : length c.join.new.awaited ≡ n = ap length joined ∙ (length-set (slice_set items a None) a (Some c.args.part) ∙ (length-set items a None ∙ size)) in
    written_back n c.join.new.awaited (take n (c.leave.new.awaited ++ drop (length c.leave.new.awaited) items)) joined_size (ap length back ∙ left_size)
    ∙ (joined ∙ (set_twice items a None (Some c.args.part) ∙ ap (λ l. slice_set l a (Some c.args.part)) c.self.view_is))
