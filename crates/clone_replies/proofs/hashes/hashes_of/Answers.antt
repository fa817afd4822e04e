use Rattle.std.proofs.Common.{◌≡◌, ◌∙◌, ◌++◌, Some, length, map, slice_get, refl, ap, sym}
use Rattle.std.proofs.lemmas.Option.{slice_get_read}
use Rattle.clone_window.specs.Bodies.{bodies_of}
use Rattle.clone_classes.specs.Listing.{windows_of_all}
use Rattle.alpha_hash_defs.specs.Sharing.{numbered, windows_of_func}
use Rattle.clone_replies.proofs.Steps.{hashes-step}
use Rattle.clone_replies.proofs.hashes.hashes_of.Goals as goal

pub loop-f-preserved : goal.loop-f-preserved
loop-f-preserved g c =
    let fs = c.args.checked.now.functions in
    let items = c.functions-f-items.result.now in
    let i = c.loop-f.f-index in
    let f = c.f-item.result in
    let e : slice_get fs i ≡ Some f = ap (λ l. slice_get l i) (sym c.functions-f-items.ensures) ∙ slice_get_read items (length items) i f refl c.loop-f-test.true c.f-item.is in
    let number = g.H.WindowHash.number c.args.hash.now c.args.checked.now in
    hashes-step number (record { fewest = c.args.min; least = c.args.mass }) fs i f
    (map number (windows_of_all (record { fewest = c.args.min; least = c.args.mass }) 0 (bodies_of fs))) c.loop-f.out.items c.push_numbers.new.out.items
    c.types-types.ensures.stands.numbers e c.loop-f.invariant
    (c.in_ok-push_numbers.ensures ∙ ap (λ l. c.loop-f.out.items ++ map (λ x. x.1) l) (c.deref.ensures.value ∙ c.in_ok-hashes.ensures)
    ∙ ap (λ k. c.loop-f.out.items ++ map (λ x. x.1) (numbered number (windows_of_func (record { fewest = c.args.min; least = c.args.mass }) (bodies_of fs) k))) c.number.ensures)
