use Rattle.std.proofs.Common.{◌≡◌, true, map, refl, ap, sym, subst, ◌∙◌}
use Rattle.go_package_stages.specs.Marked.{AreReached, AreClosed}
use Rattle.go_package_rounds.proofs.Public.{held_are}
use Rattle.go_package_rounds.specs.Rights.{rights_held}
use Rattle.go_package_rounds.specs.World.{package_in}
use Rattle.go_package_defs.specs.Knowledge.{rights_of}
use Rattle.go_package_order.specs.Progress.{sides}
use Rattle.go_package_order.specs.Reaches.{AreReaches, sort_reach, are_closed}
use Rattle.go_package_order.proofs.ReachedTypes.{held_reached, rights_closed}
use Rattle.go_package_order.proofs.in_order.is_settled.Goals as goal

pub returns : goal.returns
returns c = λ e ss shown same.
    let t = c.args.types.now in
    let w = c.args.world.now in
    let hs = c.args.all.now in
    let reach = c.args.numbers.now.reach.items in
    let rs = c.in_ok-reaches.reaches.items in
    let os = c.in_ok-rights.rights.items in
    let level = w.uses.now.package_level in
    let are : AreReaches reach t.shapes rs = subst (λ ns. AreReaches ns t.shapes rs) c.deref.ensures.value c.in_ok-reaches.ensures in
    let right : sides t os ≡ rights_held t level hs = c.in_ok-rights.ensures.are t ∙ ap (λ xs. rights_held t xs hs) c.package_objects.ensures.objects in
    let test : are_closed reach rs 0 os ≡ true =
    ap (λ ns. are_closed ns rs 0 os) (sym c.deref-2.ensures.value) ∙ ap (λ ns. are_closed c.deref-2.result.now ns 0 os) (sym c.deref-3.ensures.value)
    ∙ ap (are_closed c.deref-2.result.now c.deref-3.result.now 0) (sym c.deref-4.ensures.value) ∙ sym c.are_closed.ensures ∙ c.if-not-are_closed.false in
    let closed : AreClosed reach (rights_of (package_in w) ss) = subst (AreClosed reach) (right ∙ held_are t level hs ss shown.states) (rights_closed reach t rs are os test) in
    let reached : AreReached reach c.deref-6.result.now ss =
    subst (λ ns. AreReached reach ns ss) (sym (c.deref-6.ensures.value ∙ c.in_ok-reached.ensures)) (subst (λ ns. AreReached reach (map (λ h. sort_reach ns h.stands) hs) ss) (sym c.deref-5.ensures.value) (held_reached reach t rs are hs ss shown.states)) in
    c.in_ok-staged.ensures e (package_in w) ss c.requires.fits.needs refl reached closed same
