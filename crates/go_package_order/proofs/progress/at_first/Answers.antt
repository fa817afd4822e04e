use Rattle.std.proofs.Common.{◌≡◌, length, ap, sym, subst, ◌∙◌}
use Rattle.go_package_rounds.specs.Held.{AllHeld}
use Rattle.go_package_rounds.specs.Rights.{rights_held}
use Rattle.go_package_order.specs.Progress.{sides}
use Rattle.go_package_order.proofs.progress.at_first.Goals as goal

pub returns : goal.returns
returns c =
    let t = c.args.types.now in
    let hs = c.args.first.items in
    let are : sides t c.in_ok-rights.rights.items ≡ rights_held t c.args.world.now.uses.now.package_level hs =
    c.in_ok-rights.ensures.are t ∙ ap (λ xs. rights_held t xs c.deref-2.result.now) c.package_objects.ensures.objects ∙ ap (rights_held t c.args.world.now.uses.now.package_level) c.deref-2.ensures.value in
    record {
      all = c.requires.known;
      sound = c.in_ok-standings.ensures.known_sound;
      told = c.in_ok-standings.ensures.known_told;
      rights = record {
        known = c.in_ok-rights.ensures.known (length t.shapes) (subst (AllHeld (length t.shapes)) (sym c.deref-2.ensures.value) c.requires.known);
        are = c.requires.rights ∙ sym are;
      };
    }
