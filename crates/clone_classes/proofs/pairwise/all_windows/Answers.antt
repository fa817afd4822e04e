use Rattle.std.proofs.Common.{◌≡◌, ◌∙◌, ◌++◌, Some, length, slice_get, refl, ap, sym}
use Rattle.std.proofs.lemmas.Option.{slice_get_read}
use Rattle.clone_window.specs.Bodies.{bodies_of}
use Rattle.clone_classes.specs.Listing.{windows_of_all}
use Rattle.clone_classes.proofs.Grouping.{functions-step}
use Rattle.clone_classes.proofs.pairwise.all_windows.Goals as goal

pub loop-f-preserved : goal.loop-f-preserved
loop-f-preserved c =
    let fs = c.args.checked.now.functions in
    let items = c.functions-f-items.result.now in
    let i = c.loop-f.f-index in
    let f = c.f-item.result in
    let e : slice_get fs i ≡ Some f = ap (λ l. slice_get l i) (sym c.functions-f-items.ensures) ∙ slice_get_read items (length items) i f refl c.loop-f-test.true c.f-item.is in
    functions-step (record { fewest = c.args.min; least = c.args.mass }) fs i f
    (windows_of_all (record { fewest = c.args.min; least = c.args.mass }) 0 (bodies_of fs)) c.loop-f.out.items c.extend_from_slice.new.self.items
    c.types-types.ensures.stands.numbers e c.loop-f.invariant
    (c.in_ok-extend_from_slice.ensures.items ∙ ap (λ l. c.loop-f.out.items ++ l) (c.deref.ensures.value ∙ c.in_ok-windows.ensures))
