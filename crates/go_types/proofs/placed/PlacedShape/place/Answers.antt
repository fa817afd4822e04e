use Rattle.std.proofs.Common.{◌∙◌, sym, ap, ◌<◌, subst, length}
use Rattle.std.specs.Prelude.{IfSome}
use Rattle.go_types.specs.FieldPlaces.{field_place}
use Rattle.go_types.proofs.FieldPlacing.{field_within}
use Rattle.go_types.proofs.placed.PlacedShape.place.Goals as goal

pub returns-clause-within : goal.returns-clause-within
returns-clause-within c fs is =
    let name = c.args.name.now in
    let found = c.copied.ensures ∙ (c.get.ensures.value ∙ (c.self.invariant name ∙ ap (λ s. field_place s name) (c.self.view_is ∙ is))) in
    subst (λ o. IfSome o (λ n. n < length fs)) (sym found) (field_within fs name)
