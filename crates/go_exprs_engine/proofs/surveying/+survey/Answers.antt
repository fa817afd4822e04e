use Rattle.std.proofs.Common.{◌≡◌, ◌<◌, ◌∷◌, ◌++◌, [], Some, None, length, map, slice_get, refl, ap, sym, subst, ◌∙◌, arith}
use Rattle.std.proofs.lemmas.List.{map-append}
use Rattle.std.proofs.lemmas.Option.{slice_get_read}
use Rattle.std.specs.Option.{option_map}
use Rattle.go_grammar.specs.Trees.{kind_of}
use Rattle.go_tree.specs.Views.{view, views}
use Rattle.go_tree.proofs.Public.{height, heights, height-part}
use Rattle.go_types_relations.proofs.Public.{grows_both}
use Rattle.go_typed.specs.Views.{seen, AllKnown}
use Rattle.go_exprs_rules.specs.Hints.{hint_seen}
use Rattle.go_exprs_rules.specs.Seen.{AreBasics}
use Rattle.go_exprs_rules.specs.Faults.{least}
use Rattle.go_exprs_rules.specs.Tables.{part_scope, built, found}
use Rattle.go_exprs_rules.specs.Tables as tables
use Rattle.go_exprs_types.specs.Naming.{names, text_in}
use Rattle.go_exprs_engine.specs.Literals.{AllRead}
use Rattle.go_exprs_engine.proofs.Steps.{read_at}
use Rattle.go_exprs_engine.proofs.Stays.{told_is, names_stay, hint_stays, parts_stay, parts_known, scope_known, basics_stay}
use Rattle.go_exprs_engine.proofs.Nodes.{known_append}
use Rattle.go_exprs_engine.proofs.SurveyRows.{gap, gap_faults, part, part_faults, node_typed, node_faults}
use Rattle.go_exprs_engine.proofs.surveying.+survey.Goals as goal

pub survey_parts-loop-place-preserved-in_default : goal.survey_parts-loop-place-preserved-in_default
survey_parts-loop-place-preserved-in_default t c =
    let b = c.loop-place.types in
    let f = option_map (seen b) in
    let s = names c.args.types.now c.args.scope.now in
    let h = hint_seen c.args.types.now c.args.hint in
    let row = c.args.written.now in
    let more = ap (map f) c.in_ok-push.ensures.items ∙ map-append f c.loop-place.parts.items (None ∷ []) in (
      c.loop-place.invariant.0,
      subst (AllKnown (length b.shapes)) (sym c.in_ok-push.ensures.items) (known_append (length b.shapes) c.loop-place.parts.items (None ∷ []) c.loop-place.invariant.1 tt),
      gap s c.args.kind h (views row) row c.loop-place.place-index (map f c.loop-place.parts.items) (map f c.push.new.self.items) c.place-item.result _ c.loop-place-test.true (sym c.place-item.is ∙ c.in_default.is) more c.loop-place.invariant.2,
      gap_faults s c.args.kind h (views row) row c.loop-place.place-index (map f c.loop-place.parts.items) (map f c.push.new.self.items) c.place-item.result c.loop-place.fault _ c.loop-place-test.true (sym c.place-item.is ∙ c.in_default.is) more c.loop-place.invariant.3,
    )

pub survey_parts-survey-requires : goal.survey_parts-survey-requires
survey_parts-survey-requires t c =
    let a = c.args.types.now in
    let b = c.loop-place.types in
    let row = c.args.written.now in
    let i = c.loop-place.place-index in
    let there : slice_get row i ≡ Some (Some c.in-Some.node) = slice_get_read row (length row) i c.place-item.result refl c.loop-place-test.true c.place-item.is ∙ ap Some c.in-Some.is in
    let low : height (view c.in-Some.node) < heights (views row) = height-part row i c.in-Some.node there in
    let grown = c.loop-place.invariant.0 in
    let known = c.part_scope-inner.ensures.known (length b.shapes) (scope_known a b c.count.ensures.table grown c.args.scope.now c.requires.scope) in
    let basics = subst (AreBasics b) (sym c.part_scope-inner.ensures.basics) (basics_stay a b c.count.ensures.table grown.extends c.args.scope.now.basics c.requires.basics) in
    let literals = subst (λ ts. AllRead ts (view c.in-Some.node)) (sym c.part_scope-inner.ensures.texts) (read_at (text_in c.args.scope.now) row i c.in-Some.node there c.requires.literals) in
    (omega (arith, low, c.decreases), (known, (basics, (c.hint-told.ensures.known, literals))))

pub survey_parts-loop-place-preserved : goal.survey_parts-loop-place-preserved
survey_parts-loop-place-preserved t c =
    let a = c.args.types.now in
    let b = c.loop-place.types in
    let d = c.survey.new.types in
    let s = names a c.args.scope.now in
    let h = hint_seen a c.args.hint in
    let row = c.args.written.now in
    let all = views row in
    let ns = c.loop-place.parts.items in
    let xs = map (option_map (seen b)) ns in
    let x = c.in_ok-one.one.node in
    let f = option_map (seen d) in
    let ys = map f c.push-in-loop-place.new.self.items in
    let grown = c.loop-place.invariant.0 in
    let later = c.survey.ensures.grows in
    let inner = names b c.part_scope-inner.result in
    let told = hint_seen b c.hint-told.result in
    let there : inner ≡ part_scope s c.args.kind xs = c.part_scope-inner.ensures.names ∙ ap (λ ns. part_scope (names b c.args.scope.now) c.args.kind (map (option_map (seen b)) ns)) c.deref.ensures.value
    ∙ ap (λ z. part_scope z c.args.kind xs) (names_stay a b c.count.ensures.table grown c.args.scope.now c.requires.scope) in
    let told_there = told_is a b c.count.ensures.table grown c.args.scope.now c.requires.scope c.args.kind c.args.hint c.requires.hint all xs (kind_of (view c.in-Some.node)) c.kind.result told c.kind.ensures
    (c.hint-told.ensures.tree (names b c.args.scope.now) refl ∙ ap (λ ns. tables.hint (names b c.args.scope.now) c.args.kind (hint_seen b c.args.hint) all (map (option_map (seen b)) ns) c.kind.result) c.deref-in-loop-place.ensures.value) in
    let more = ap (map f) c.in_ok-push-2.ensures.items ∙ map-append f ns (Some x ∷ []) ∙ ap (λ ys. ys ++ Some (seen d x) ∷ []) (parts_stay b d grown.table later.extends ns c.loop-place.invariant.1) in
    let is = sym c.place-item.is ∙ c.in-Some.is in (
      grows_both a b d grown later,
      subst (AllKnown (length d.shapes)) (sym c.in_ok-push-2.ensures.items) (known_append (length d.shapes) ns (Some x ∷ []) (parts_known b d grown.table later.extends ns c.loop-place.invariant.1) (c.in_ok-one.ensures.known, tt)),
      part s c.args.kind h all row c.loop-place.place-index xs ys c.in-Some.node (seen d x) c.place-item.result c.loop-place-test.true is inner told there told_there c.in_ok-one.ensures.tree more _ c.loop-place.invariant.2,
      part_faults s c.args.kind h all row c.loop-place.place-index xs ys c.in-Some.node (seen d x) c.place-item.result c.loop-place-test.true is inner told there told_there c.in_ok-one.ensures.tree more c.loop-place.fault c.in_ok-one.one.fault c.earlier-fault.result _ c.in_ok-one.ensures.fault c.earlier-fault.ensures c.loop-place.invariant.3,
    )

pub survey-build-requires-clause-scope : goal.survey-build-requires-clause-scope
survey-build-requires-clause-scope t c = scope_known c.args.types.now c.survey_parts.new.types c.count.ensures.table c.survey_parts.ensures.grows c.args.scope.now c.requires.scope

pub survey-build-requires-clause-basics : goal.survey-build-requires-clause-basics
survey-build-requires-clause-basics t c = basics_stay c.args.types.now c.survey_parts.new.types c.count.ensures.table c.survey_parts.ensures.grows.extends c.args.scope.now.basics c.requires.basics

pub survey-returns-in_err-one-clause-grows : goal.survey-returns-in_err-one-clause-grows
survey-returns-in_err-one-clause-grows t c = grows_both c.args.types.now c.survey_parts.new.types c.build.new.types c.survey_parts.ensures.grows c.build.ensures.grows

pub survey-returns-clause-grows : goal.survey-returns-clause-grows
survey-returns-clause-grows t c = grows_both c.args.types.now c.survey_parts.new.types c.build.new.types c.survey_parts.ensures.grows c.build.ensures.grows

pub survey-returns-clause-tree : goal.survey-returns-clause-tree
survey-returns-clause-tree t c =
    let a = c.args.types.now in
    let b = c.survey_parts.new.types in
    let s = names a c.args.scope.now in
    let h = hint_seen a c.args.hint in
    let k = c.kind-kind.result in
    let i = c.first-first.result in
    let j = c.last-last.result in
    let xs = map (option_map (seen b)) c.in_ok-typed.typed.parts.items in
    let here = c.in_ok-one.ensures.tree ∙ ap (λ z. built z k (hint_seen b c.args.hint) i j xs) (names_stay a b c.count.ensures.table c.survey_parts.ensures.grows c.args.scope.now c.requires.scope)
    ∙ ap (λ z. built s k z i j xs) (hint_stays a b c.count.ensures.table c.survey_parts.ensures.grows.extends c.args.hint c.requires.hint) in
    node_typed s h (view c.args.node.now) k i j (views c.parts.result.now) xs (seen c.build.new.types c.in_ok-one.one.node) c.kind-kind.ensures c.first-first.ensures c.last-last.ensures c.parts.ensures c.in_ok-typed.ensures.parts here

pub survey-returns-clause-fault : goal.survey-returns-clause-fault
survey-returns-clause-fault t c =
    let a = c.args.types.now in
    let b = c.survey_parts.new.types in
    let s = names a c.args.scope.now in
    let h = hint_seen a c.args.hint in
    let k = c.kind-kind.result in
    let i = c.first-first.result in
    let j = c.last-last.result in
    let xs = map (option_map (seen b)) c.in_ok-typed.typed.parts.items in
    let here = c.in_ok-one.ensures.fault ∙ ap (λ z. least (found z k (hint_seen b c.args.hint) i j xs)) (names_stay a b c.count.ensures.table c.survey_parts.ensures.grows c.args.scope.now c.requires.scope)
    ∙ ap (λ z. least (found s k z i j xs)) (hint_stays a b c.count.ensures.table c.survey_parts.ensures.grows.extends c.args.hint c.requires.hint) in
    node_faults s h (view c.args.node.now) k i j (views c.parts.result.now) xs c.in_ok-typed.typed.fault c.in_ok-one.one.fault c.earlier.result c.kind-kind.ensures c.first-first.ensures c.last-last.ensures c.parts.ensures
    c.in_ok-typed.ensures.parts c.in_ok-typed.ensures.fault here c.earlier.ensures

pub survey_parts-returns-in_err-one-clause-grows : goal.survey_parts-returns-in_err-one-clause-grows
survey_parts-returns-in_err-one-clause-grows t c = grows_both c.args.types.now c.loop-place.types c.survey.new.types c.loop-place.invariant.0 c.survey.ensures.grows

pub survey_parts-returns-in_err-push-2-clause-grows : goal.survey_parts-returns-in_err-push-2-clause-grows
survey_parts-returns-in_err-push-2-clause-grows t c = grows_both c.args.types.now c.loop-place.types c.survey.new.types c.loop-place.invariant.0 c.survey.ensures.grows
