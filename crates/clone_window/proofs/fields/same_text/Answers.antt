use Rattle.std.proofs.Common.{◌≡◌, ◌∙◌, ap, sym}
use Rattle.go_types_relations.specs.Identity.{same_name}
use Rattle.go_typed.specs.Views.{sort_view}
use Rattle.clone_window.specs.Fields.{field_of, field_text}
use Rattle.clone_window.specs.Sameness.{final}
use Rattle.clone_window.proofs.Equivalence.{name-refl}
use Rattle.clone_window.proofs.FieldNames.{one-name}
use Rattle.clone_window.proofs.fields.same_text.Goals as goal

pub returns-then-same_type : goal.returns-then-same_type
returns-then-same_type c =
    let names = field_text c.args.types.now in
    let x = final (sort_view c.args.owner.now) in
    let y = final (sort_view c.args.other.now) in
    let e : field_of names x c.args.field ≡ field_of names y c.args.other_field =
    one-name names x y c.args.field (sym c.same_type.ensures ∙ c.if-same_type.true) ∙ ap (field_of names y) c.if-field-other_field.true in
    sym (ap (same_name (field_of names x c.args.field)) (sym e) ∙ name-refl (field_of names x c.args.field))
