use Rattle.std.proofs.Common.{◌≡◌, ◌<◌, None, Some, map, length, sym, ap, subst, ◌∙◌}
use Rattle.std.specs.Prelude.{slice_get}
use Rattle.std.proofs.lemmas.Option.{slice_get-get_or}
use Rattle.go_types.specs.Tables.{HasPartsBelow}
use Rattle.go_types.specs.Changes.{table_of}
use Rattle.go_types.proofs.Places.{all_at, get_within}
use Rattle.go_types.proofs.Settling.{type_of_field}
use Rattle.go_types.specs.Verdicts.{IsShapeVerdict, IsFieldsVerdict}
use Rattle.go_types.specs.Findings.{IsFinding, Awaits, IsUnknownField}
use Rattle.go_types.proofs.Carrying.{definition_right}
use Rattle.go_types.proofs.Judgements.{plain_found, array_found, struct_found}
use Rattle.go_types.proofs.Finds.{array_waits, struct_waits, right_told, open_told}
use Rattle.go_types.proofs.finding.find_out.Goals as goal

pub returns-in-Some : goal.returns-in-Some
returns-in-Some c shapes are =
    plain_found (table_of shapes c.args.definitions.now) c.args.shape.now c.in-Some.comparable c.plain-in-Some.result (sym c.plain.ensures ∙ c.in-Some.is) c.plain-in-Some.ensures.comparable c.plain-in-Some.ensures.scalars

pub look_at_fields-requires : goal.look_at_fields-requires
look_at_fields-requires c k x e =
    let below = subst (HasPartsBelow (length c.args.verdicts.now)) c.in-Struct.is c.requires.parts in
    all_at (λ q. q < length c.args.verdicts.now) (map (λ f. f.ty) c.in-Struct.fields) k x.ty below (type_of_field c.in-Struct.fields k x (ap (λ l. slice_get l k) (sym c.as_slice-fields.ensures) ∙ e))

definition : (c : goal.In-Some-definitions) → slice_get c.args.definitions.now c.in-Named.number ≡ Some (Some c.in-Some-definitions.definition)
definition c = slice_get-get_or c.args.definitions.now c.in-Named.number None (c.requires.declared c.in-Named.number c.in-Named.is) ∙ ap Some c.in-Some-definitions.is

pub right_finding-requires : goal.right_finding-requires
right_finding-requires c = c.requires.rights c.in-Named.number c.in-Some-definitions.definition (definition c)

pub returns-in-Some-known : goal.returns-in-Some-known
returns-in-Some-known c shapes are =
    let t = table_of shapes c.args.definitions.now in
    subst (λ s. IsShapeVerdict t s c.of_array.result) (sym c.in-Array.is)
    (array_found t c.in-Array.length c.in-Array.elem c.in-Some-known.verdict c.of_array.result (are c.in-Array.elem c.in-Some-known.verdict (c.known.ensures ∙ ap Some c.in-Some-known.is)) c.of_array.ensures.comparable c.of_array.ensures.scalars)

pub returns-in-None : goal.returns-in-None
returns-in-None c shapes are =
    subst (λ s. Awaits (table_of shapes c.args.definitions.now) c.args.verdicts.now s c.in-Array.elem) (sym c.in-Array.is)
    (array_waits (table_of shapes c.args.definitions.now) c.args.verdicts.now c.in-Array.length c.in-Array.elem (c.known.ensures ∙ ap Some c.in-None.is))

pub returns-in-Ok : goal.returns-in-Ok
returns-in-Ok c shapes are =
    let t = table_of shapes c.args.definitions.now in
    let all = subst (λ fs. IsFieldsVerdict t fs (length fs) c.in-Ok.verdict) c.as_slice-fields.ensures (c.in-Ok.ensures.known shapes are) in
    subst (λ s. IsShapeVerdict t s c.of_struct.result) (sym c.in-Struct.is)
    (struct_found t c.in-Struct.fields c.in-Ok.verdict c.of_struct.result all c.of_struct.ensures.comparable c.of_struct.ensures.scalars)

pub type_at-requires : goal.type_at-requires
type_at-requires c = let field = c.in-Err.ensures.unknown in get_within c.as_slice-fields.result.now c.in-Err.place field.field field.field_is

pub returns-in-Err : goal.returns-in-Err
returns-in-Err c shapes are =
    let t = table_of shapes c.args.definitions.now in
    let h = c.in-Err.ensures.unknown in
    let field = subst (λ fs. slice_get fs c.in-Err.place ≡ Some h.field) c.as_slice-fields.ensures h.field_is in
    let unknown : IsUnknownField c.args.verdicts.now c.in-Struct.fields c.in-Err.place = record { field = h.field; field_is = field; unknown = h.unknown } in
    subst (λ s. Awaits t c.args.verdicts.now s c.type_at.result) (sym c.in-Struct.is)
    (struct_waits t c.args.verdicts.now c.in-Struct.fields c.in-Err.place c.type_at.result unknown (c.type_at.ensures h.field h.field_is))

pub returns-in-Some-definitions : goal.returns-in-Some-definitions
returns-in-Some-definitions c shapes are =
    let t = table_of shapes c.args.definitions.now in
    let there = slice_get-get_or c.args.definitions.now c.in-Named.number None (c.requires.declared c.in-Named.number c.in-Named.is) ∙ ap Some c.in-Some-definitions.is in
    let side = definition_right shapes c.args.definitions.now c.in-Named.number c.in-Some-definitions.definition there in
    subst (λ s. IsFinding t c.args.verdicts.now s c.right_finding.result) (sym c.in-Named.is)
    (right_told t c.args.verdicts.now c.in-Named.number c.in-Some-definitions.definition.right c.right_finding.result side are c.right_finding.ensures.known c.right_finding.ensures.waits c.right_finding.ensures.closed)

pub returns-in-None-definitions : goal.returns-in-None-definitions
returns-in-None-definitions c shapes are =
    let there = slice_get-get_or c.args.definitions.now c.in-Named.number None (c.requires.declared c.in-Named.number c.in-Named.is) ∙ ap Some c.in-None-definitions.is in
    (c.in-Named.number, c.in-Named.is, open_told shapes c.args.definitions.now c.in-Named.number there)
