use Rattle.std.proofs.Common.{◌≡◌, ◌∷◌, ◌++◌, [], Some, length, map, slice_get, refl, ap, sym, subst, ◌∙◌}
use Rattle.std.proofs.lemmas.List.{map-append}
use Rattle.std.proofs.lemmas.Option.{slice_get_read}
use Rattle.std.specs.Option.{option_map}
use Rattle.go_tree.specs.Views.{view}
use Rattle.go_types_relations.proofs.Public.{grows_both}
use Rattle.go_typed.specs.Views.{seen, AllKnown}
use Rattle.go_exprs_rules.specs.Faults.{least, joined}
use Rattle.go_exprs_rules.specs.Hints.{hint_seen}
use Rattle.go_exprs_rules.specs.Typing.{typing, faults}
use Rattle.go_exprs_types.specs.Naming.{names}
use Rattle.go_exprs_engine.proofs.Public.{names_stay, parts_stay, parts_known, scope_known, basics_stay, known_append}
use Rattle.go_package_defs.specs.Verdicts.{value_hint}
use Rattle.go_declarations.specs.Views.{specification_view}
use Rattle.go_package_types.proofs.Rows.{tree_at, next_parts, next_faults}
use Rattle.go_package_types.proofs.whole.survey_values.Goals as goal

pub survey-requires-clause-scope : goal.survey-requires-clause-scope
survey-requires-clause-scope c = scope_known c.args.types.now c.loop-place.types c.count.ensures.table c.loop-place.invariant.0 c.args.scope.now c.requires.scope

pub survey-requires-clause-basics : goal.survey-requires-clause-basics
survey-requires-clause-basics c = basics_stay c.args.types.now c.loop-place.types c.count.ensures.table c.loop-place.invariant.0.extends c.args.scope.now.basics c.requires.basics

pub survey-requires-clause-hint : goal.survey-requires-clause-hint
survey-requires-clause-hint c = c.value_hint-hint.ensures.known (length c.loop-place.types.shapes)

pub survey-requires-clause-literals : goal.survey-requires-clause-literals
survey-requires-clause-literals c =
    let row = c.args.specification.now.values.now in
    let i = c.loop-place.place-index in
    let there : slice_get row i ≡ Some (Some c.in-Some.node) = slice_get_read row (length row) i c.place-item.result refl c.loop-place-test.true c.place-item.is ∙ ap Some c.in-Some.is in
    let tree = tree_at row i c.in-Some.node there in
    c.requires.literals.values tree.0 (view c.in-Some.node) tree.1

pub returns-in_err-one-clause-grows : goal.returns-in_err-one-clause-grows
returns-in_err-one-clause-grows c = grows_both c.args.types.now c.loop-place.types c.survey.new.types c.loop-place.invariant.0 c.survey.ensures.grows

pub returns-in_err-push-clause-grows : goal.returns-in_err-push-clause-grows
returns-in_err-push-clause-grows c = grows_both c.args.types.now c.loop-place.types c.survey.new.types c.loop-place.invariant.0 c.survey.ensures.grows

pub loop-place-preserved : goal.loop-place-preserved
loop-place-preserved c =
    let a = c.args.types.now in
    let b = c.loop-place.types in
    let z = c.survey.new.types in
    let s = names a c.args.scope.now in
    let d = specification_view c.args.specification.now in
    let h = value_hint d in
    let row = c.args.specification.now.values.now in
    let i = c.loop-place.place-index in
    let ns = c.loop-place.parts.items in
    let n = c.in-Some.node in
    let x = c.in_ok-one.one.node in
    let f = option_map (seen z) in
    let grown = c.loop-place.invariant.0 in
    let later = c.survey.ensures.grows in
    let same = names_stay a b c.count.ensures.table grown c.args.scope.now c.requires.scope in
    let told = c.value_hint-hint.ensures.hint b in
    let g = hint_seen b c.value_hint-hint.result in
    let tree : seen z x ≡ typing s h (view n) = c.in_ok-one.ensures.tree ∙ ap (λ r. typing r g (view n)) same ∙ ap (λ k. typing s k (view n)) told in
    let fault : c.in_ok-one.one.fault ≡ least (joined (faults s h (view n))) =
    c.in_ok-one.ensures.fault ∙ ap (λ r. least (joined (faults r g (view n)))) same ∙ ap (λ k. least (joined (faults s k (view n)))) told in
    let more = ap (map f) c.in_ok-push.ensures.items ∙ map-append f ns (Some x ∷ []) ∙ ap (λ ys. ys ++ Some (seen z x) ∷ []) (parts_stay b z grown.table later.extends ns c.loop-place.invariant.1) in
    let is = sym c.place-item.is ∙ c.in-Some.is in (
      grows_both a b z grown later,
      subst (AllKnown (length z.shapes)) (sym c.in_ok-push.ensures.items) (known_append (length z.shapes) ns (Some x ∷ []) (parts_known b z grown.table later.extends ns c.loop-place.invariant.1) (c.in_ok-one.ensures.known, tt)),
      next_parts s h row i c.place-item.result c.loop-place-test.true n (map (option_map (seen b)) ns) (map f c.push.new.self.items) (seen z x) _ is more tree c.loop-place.invariant.2,
      next_faults s h row i c.place-item.result c.loop-place-test.true n c.loop-place.fault c.in_ok-one.one.fault c.earlier-fault.result _ is fault c.earlier-fault.ensures c.loop-place.invariant.3,
    )
