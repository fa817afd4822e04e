use Rattle.std.proofs.Common.{◌≡◌, refl, ap, sym, ◌∙◌}
use Rattle.std.proofs.lemmas.Result.{on_ok_weaker}
use Rattle.go_package_rounds.specs.Rights.{rights_held}
use Rattle.go_package_rounds.proofs.RightSides.{held_are}
use Rattle.go_package_rounds.proofs.rights.take_rights.Goals as goal

pub returns-clause-rights : goal.returns-clause-rights
returns-clause-rights c = λ ss zs old new rights.
    let t = c.args.types.now in
    let w = c.args.world.now in
    let ds = w.uses.now.package_level in
    let same = c.package_objects.ensures.objects in
    on_ok_weaker c.take_all.result (λ h. h ∙ ap (λ xs. rights_held t xs c.args.new.now) same ∙ held_are t ds c.args.new.now zs new)
    (c.take_all.ensures.rights (rights ∙ sym (held_are t ds c.args.old.now ss old) ∙ sym (ap (λ xs. rights_held t xs c.args.old.now) same)))
