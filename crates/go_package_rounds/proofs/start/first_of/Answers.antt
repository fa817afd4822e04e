use Rattle.std.proofs.Common.{◌≡◌, [], length, refl, ap, sym, subst, ◌∙◌}
use Rattle.go_package_defs.specs.Declarations.{Specification}
use Rattle.go_package_defs.specs.Verdicts.{first_state}
use Rattle.go_declarations.specs.Views.{specification_view}
use Rattle.go_package_rounds.specs.Held.{summary, KnownHeld}
use Rattle.go_package_rounds.specs.World.{package_in, specifications_in, outlines_in}
use Rattle.go_package_rounds.proofs.Judged.{seen_at, first_type, first_value, first_type_shown, first_value_shown}
use Rattle.go_package_rounds.proofs.start.first_of.Goals as goal

pub returns-in_ok-own_type-in-Type-clause-shows : goal.returns-in_ok-own_type-in-Type-clause-shows
returns-in_ok-own_type-in-Type-clause-shows c = λ o at.
    let t = c.args.types.now in
    let w = c.args.world.now in
    let p = package_in w in
    let os = outlines_in w in
    let s = c.in-Some-specification_at.specification.now in
    let there = c.in-Some.ensures.specification p (specifications_in w) o c.requires.needs at in
    let is : specification_view s ≡ o.specification = seen_at specification_view w.specifications.now c.in-Some.place.specification s o.specification c.in-Some-specification_at.ensures there in
    first_type_shown t c.only.result c.in_ok-own_type-in-Type.field-0 _ c.only.ensures c.in_ok-own_type-in-Type.ensures.is
    ∙ sym (ap summary (first_type p os [] c.args.number o.specification.entity (sym (ap (λ (d : Specification). d.entity) is) ∙ c.in-Type.is)))

pub returns-in_default-entity : goal.returns-in_default-entity
returns-in_default-entity c =
    let t = c.args.types.now in
    let w = c.args.world.now in
    let p = package_in w in
    let os = outlines_in w in
    let h = c.only-in_default-entity.result in
    record {
      shows = λ o at.
          let s = c.in-Some-specification_at.specification.now in
          let there = c.in-Some.ensures.specification p (specifications_in w) o c.requires.needs at in
          let is : specification_view s ≡ o.specification = seen_at specification_view w.specifications.now c.in-Some.place.specification s o.specification c.in-Some-specification_at.ensures there in
          first_value_shown t h c.only-in_default-entity.ensures
          ∙ sym (ap summary (first_value p os [] c.args.number o.specification.entity (λ e. c.in_default-entity.not-Type (ap (λ (d : Specification). d.entity) is ∙ e))));
      known = subst (KnownHeld (length t.shapes)) (sym c.only-in_default-entity.ensures) (record { right = tt; stands = tt });
    }
