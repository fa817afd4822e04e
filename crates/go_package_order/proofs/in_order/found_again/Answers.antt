use Rattle.std.proofs.Common.{◌≡◌, length, map, refl, ap, sym, subst, ◌∙◌}
use Rattle.go_types.specs.Tables.{rights_of}
use Rattle.go_package_defs.specs.Verdicts.{next_states}
use Rattle.go_package_rounds.specs.Held.{all_seen, summary, AllReadAlike}
use Rattle.go_package_rounds.specs.Rights.{rights_held}
use Rattle.go_package_rounds.specs.World.{package_in, outlines_in, Shows}
use Rattle.go_package_rounds.proofs.Public.{all_stay}
use Rattle.go_package_order.specs.Progress.{sides}
use Rattle.go_package_order.proofs.Again.{states_held, held_shown, found_so}
use Rattle.go_package_order.proofs.in_order.found_again.Goals as goal

pub returns-then-all_read_alike-clause-shows : goal.returns-then-all_read_alike-clause-shows
returns-then-all_read_alike-clause-shows c =
    let a = c.args.types.now in
    let z = c.round.new.types in
    let w = c.args.world.now in
    let p = package_in w in
    let os = outlines_in w in
    let hs = c.args.progress.now.all.items in
    let ks = c.in_ok-next.next.items in
    let ss = states_held a hs in
    let many : length hs ≡ length w.uses.now.package_level = ap length (sym c.deref.ensures.value) ∙ c.deref.ensures.len ∙ sym c.len.ensures ∙ c.if-len-objects.false ∙ ap length c.package_objects-objects.ensures.objects in
    let rights : rights_of a ≡ rights_held a w.uses.now.package_level hs =
    c.requires.found.rights.are ∙ ap (sides a) (sym c.deref-2.ensures.value) ∙ c.in_ok-are_held.ensures c.if-not-branch.false a
    ∙ ap (λ xs. rights_held a xs c.deref.result.now) c.package_objects-objects.ensures.objects ∙ ap (rights_held a w.uses.now.package_level) c.deref.ensures.value in
    let shown : Shows a w hs ss = held_shown a w hs many rights in
    let found : Shows z w ks (next_states p os ss 0 os) = c.in_ok-next.ensures.shows ss (subst (λ xs. Shows a w xs ss) (sym c.deref-3.ensures.value) shown) in
    let before : all_seen z hs ≡ map summary ss = all_stay a z c.round.ensures.table c.round.ensures.extends hs c.requires.found.all ∙ shown.states in
    let alike : AllReadAlike hs ks =
    subst (λ xs. AllReadAlike xs ks) c.deref-4.ensures.value (subst (λ ys. AllReadAlike c.deref-4.result.now ys) c.deref-5.ensures.value (c.if-all_read_alike.ensures refl)) in
    (next_states p os ss 0 os, found_so z w hs ks ss alike before found.states, found)
