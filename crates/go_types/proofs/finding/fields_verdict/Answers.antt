use Rattle.std.proofs.Common.{◌≡◌, Some, length, sym, ap, subst, ◌∙◌, arith}
use Rattle.std.proofs.lemmas.Option.{slice_get-get_or}
use Rattle.go_types.specs.Changes.{table_of}
use Rattle.go_types.specs.Verdicts.{IsFieldsVerdict}
use Rattle.go_types.proofs.Judgements.{no_field_found, field_found}
use Rattle.go_types.proofs.finding.fields_verdict.Goals as goal

pub loop-place-init : goal.loop-place-init
loop-place-init c shapes are = no_field_found (table_of shapes c.args.definitions.now) c.args.fields.now c.no_fields-verdict.result c.no_fields-verdict.ensures.comparable c.no_fields-verdict.ensures.scalars

pub loop-place-preserved : goal.loop-place-preserved
loop-place-preserved c shapes are =
    let there = slice_get-get_or c.args.fields.now c.loop-place.place c.index-fields-place.result c.loop-place-test.true ∙ ap Some (sym c.index-fields-place.is) in
    field_found (table_of shapes c.args.definitions.now) c.args.fields.now c.loop-place.place c.index-fields-place.result c.loop-place.verdict c.in-Some.more c.with-verdict.result (c.loop-place.invariant shapes are) there
    (are c.index-fields-place.result.ty c.in-Some.more (c.known.ensures ∙ ap Some c.in-Some.is)) c.with-verdict.ensures.comparable c.with-verdict.ensures.scalars

pub returns-clause-known : goal.returns-clause-known
returns-clause-known c shapes are =
    let whole : c.loop-place.place ≡ length c.args.fields.now = omega (arith, c.loop-place.auto.place-end, c.loop-place-test.false) in
    subst (λ k. IsFieldsVerdict (table_of shapes c.args.definitions.now) c.args.fields.now k c.loop-place.verdict) whole (c.loop-place.invariant shapes are)
