use Rattle.std.proofs.Common.{◌≡◌, [], List, Option, Some, IsSome, false, pos, length, replicate, slice_get, refl, sym, ap, ◌∙◌, subst, arith, rules}
use Rattle.std.proofs.lemmas.Option.{slice_get_read}
use Rattle.std.proofs.lemmas.Result.{IfOk-weaker}
use Rattle.go_types.specs.declared.shape.Field.{Field}
use Rattle.go_types.specs.declared.shape.Shape.{Shape}
use Rattle.go_types.specs.Tables.{HasPartsBelow, type_of, rights_of, tree_of}
use Rattle.go_types_relations.specs.Zeros.{Zero, zero_of, zeros_of}
use Rattle.go_meaning.specs.Values as meant
use Rattle.go_meaning.specs.Values.{valued}
use Rattle.go_values.proofs.Public.{view_nil, view_whole, view_text}
use Rattle.go_eval_operations.specs.Settled.{AreKnown, row_of, zeros_in, told_size, told_row_size}
use Rattle.go_eval_operations.proofs.Plain.{view_truth, view_nil_slice}
use Rattle.go_eval_operations.proofs.ZeroSizes.{arm, value_at, no_name, underlying_there, array_told, array_smaller, array_value, struct_told, struct_smaller, struct_value, field_told, field_known}
use Rattle.go_eval_operations.proofs.zeros.+zero.Goals as goal

pub of_settled-returns-in-Some-Bool : goal.of_settled-returns-in-Some-Bool
of_settled-returns-in-Some-Bool t c =
    let R = rights_of c.args.types.now in
    let F = type_of c.args.types.now.shapes in
    let T = F c.args.a in
    view_truth false ∙ value_at R F T c.in-Some-Bool.field-0.now _ c.in-Some-Bool.field-0-is c.in-Some-Bool.ensures.tree

pub of_settled-returns-in_ok-of-in-Some-Text : goal.of_settled-returns-in_ok-of-in-Some-Text
of_settled-returns-in_ok-of-in-Some-Text t c =
    let R = rights_of c.args.types.now in
    let F = type_of c.args.types.now.shapes in
    let T = F c.args.a in
    let empty : c.in_ok-of-in-Some-Text.field-0 ≡ [] = search rules in
    view_text c.in_ok-of-in-Some-Text.field-0 ∙ ap meant.Text empty ∙ value_at R F T c.in-Some-Text.field-0.now _ c.in-Some-Text.field-0-is c.in-Some-Text.ensures.tree

pub of_settled-returns-in-Some-Int : goal.of_settled-returns-in-Some-Int
of_settled-returns-in-Some-Int t c =
    let R = rights_of c.args.types.now in
    let F = type_of c.args.types.now.shapes in
    let T = F c.args.a in
    view_whole (pos 0) ∙ value_at R F T c.in-Some-Int.field-0.now _ c.in-Some-Int.field-0-is c.in-Some-Int.ensures.tree

pub of_settled-returns-in-Some-Slice : goal.of_settled-returns-in-Some-Slice
of_settled-returns-in-Some-Slice t c =
    let R = rights_of c.args.types.now in
    let F = type_of c.args.types.now.shapes in
    let T = F c.args.a in
    view_nil_slice ∙ value_at R F T c.in-Some-Slice.field-0.now _ c.in-Some-Slice.field-0-is c.in-Some-Slice.ensures.tree

pub of_settled-returns-in-Some-Func : goal.of_settled-returns-in-Some-Func
of_settled-returns-in-Some-Func t c =
    let R = rights_of c.args.types.now in
    let F = type_of c.args.types.now.shapes in
    let T = F c.args.a in
    view_nil ∙ value_at R F T c.in-Some-Func.field-0.now _ c.in-Some-Func.field-0-is c.in-Some-Func.ensures.tree

pub of_settled-returns-in-Some-Named : goal.of_settled-returns-in-Some-Named
of_settled-returns-in-Some-Named t c =
    let R = rights_of c.args.types.now in
    let F = type_of c.args.types.now.shapes in
    let T = F c.args.a in
    absurd (no_name R T _ (ap (λ (s : Shape). Some (tree_of F s)) (sym c.in-Some-Named.field-0-is) ∙ c.in-Some-Named.ensures.tree))

pub of_settled-returns-in-None : goal.of_settled-returns-in-None
of_settled-returns-in-None t c =
    let R = rights_of c.args.types.now in
    let F = type_of c.args.types.now.shapes in
    let T = F c.args.a in
    absurd (underlying_there R T c.in-None.ensures.tree c.requires.told)

pub of_settled-of_settled-requires : goal.of_settled-of_settled-requires
of_settled-of_settled-requires t c =
    let R = rights_of c.args.types.now in
    let F = type_of c.args.types.now.shapes in
    let T = F c.args.a in
    let a = c.in-Some-Array in
    let z = arm R F T a.field-0.now _ a.field-0-is a.ensures.tree in
    let told = subst (λ (o : Option Zero). IsSome o) z c.requires.told in
    let parts = subst (λ (s : Shape). HasPartsBelow (length c.args.types.now.shapes) s) a.field-0-is a.ensures.parts in
    (omega (arith, array_smaller (zero_of R (F a.elem)) a.length told, ap told_size z, c.decreases), (parts.0, array_told (zero_of R (F a.elem)) a.length told))

pub of_settled-returns-in_ok-copies-in-Some-Array : goal.of_settled-returns-in_ok-copies-in-Some-Array
of_settled-returns-in_ok-copies-in-Some-Array t c =
    let R = rights_of c.args.types.now in
    let F = type_of c.args.types.now.shapes in
    let T = F c.args.a in
    let a = c.in-Some-Array in
    let z = arm R F T a.field-0.now _ a.field-0-is a.ensures.tree in
    let told = array_told (zero_of R (F a.elem)) a.length (subst (λ (o : Option Zero). IsSome o) z c.requires.told) in
    IfOk-weaker c.of_parts.result _ _ (λ v h. h
    ∙ ap (λ (us : List meant.Value). meant.Parts (valued us)) (c.in_ok-copies-in-Some-Array.ensures ∙ ap (replicate a.length) c.in_ok-element-in-Some-Array.ensures)
    ∙ array_value (zero_of R (F a.elem)) a.length told ∙ value_at R F T a.field-0.now _ a.field-0-is a.ensures.tree) c.of_parts.ensures

pub of_settled-of_fields-requires : goal.of_settled-of_fields-requires
of_settled-of_fields-requires t c =
    let R = rights_of c.args.types.now in
    let F = type_of c.args.types.now.shapes in
    let T = F c.args.a in
    let a = c.in-Some-Struct in
    let e = c.as_slice.ensures in
    let z = arm R F T a.field-0.now _ a.field-0-is a.ensures.tree in
    let told = subst (λ (o : Option Zero). IsSome o) z c.requires.told in
    let parts = subst (λ (s : Shape). HasPartsBelow (length c.args.types.now.shapes) s) a.field-0-is a.ensures.parts in (
      omega (arith, struct_smaller (zeros_of R (row_of F a.fields)) told, ap told_size z, ap (λ (xs : List Field). told_row_size (zeros_of R (row_of F xs))) e, c.decreases),
      (subst (λ (xs : List Field). AreKnown (length c.args.types.now.shapes) xs) (sym e) parts, subst (λ (xs : List Field). IsSome (zeros_of R (row_of F xs))) (sym e) (struct_told (zeros_of R (row_of F a.fields)) told)),
    )

pub of_settled-returns-in_ok-values-in-Some-Struct : goal.of_settled-returns-in_ok-values-in-Some-Struct
of_settled-returns-in_ok-values-in-Some-Struct t c =
    let R = rights_of c.args.types.now in
    let F = type_of c.args.types.now.shapes in
    let T = F c.args.a in
    let a = c.in-Some-Struct in
    let e = c.as_slice.ensures in
    let z = arm R F T a.field-0.now _ a.field-0-is a.ensures.tree in
    let told = struct_told (zeros_of R (row_of F a.fields)) (subst (λ (o : Option Zero). IsSome o) z c.requires.told) in
    IfOk-weaker c.of_parts-in-Some-Struct.result _ _ (λ v h. h
    ∙ ap (λ (us : List meant.Value). meant.Parts (valued us)) (c.in_ok-values-in-Some-Struct.ensures ∙ ap (zeros_in R F) e)
    ∙ struct_value R F a.fields told ∙ value_at R F T a.field-0.now _ a.field-0-is a.ensures.tree) c.of_parts-in-Some-Struct.ensures

pub of_fields-of_settled-requires : goal.of_fields-of_settled-requires
of_fields-of_settled-requires t c =
    let R = rights_of c.args.types.now in
    let F = type_of c.args.types.now.shapes in
    let fs = c.args.fields.now in
    let i = c.loop-field.field-index in
    let there : slice_get fs i ≡ Some c.field-item.result = slice_get_read fs (length fs) i c.field-item.result refl c.loop-field-test.true c.field-item.is in
    let f = field_told R F fs i c.field-item.result there c.requires.told in
    (omega (arith, f.1, c.decreases), (field_known (length c.args.types.now.shapes) fs i c.field-item.result there c.requires.known, f.0))
