use Rattle.std.proofs.Common.{rules, ◌≡◌, ◌<◌, ◌∷◌, ◌++◌, [], Option, Vec, Global, Some, None, Ok, Err, length, map, slice_get, refl, ap, sym, subst, ◌∙◌, arith}
use Rattle.std.proofs.lemmas.List.{map-append, drop_all}
use Rattle.std.proofs.lemmas.Option.{slice_get_read}
use Rattle.std.specs.Option.{option_map}
use Rattle.go_base.specs.Gives.{Gives}
use Rattle.go_grammar.specs.Trees.{kind_of}
use Rattle.go_tree.specs.Views.{view, views}
use Rattle.go_tree.proofs.Public.{height, heights, height-part}
use Rattle.go_types_relations.proofs.Public.{grows_both}
use Rattle.go_typed.specs.declared.node.TypedNode.{TypedNode}
use Rattle.go_typed.specs.Views.{seen, AllKnown}
use Rattle.go_exprs_rules.specs.Faults.{judged, least, refusal_of}
use Rattle.go_exprs_rules.specs.Hints.{hint_seen}
use Rattle.go_exprs_rules.specs.Seen.{AreBasics}
use Rattle.go_exprs_rules.specs.Tables.{Parts, found, built, part_scope}
use Rattle.go_exprs_rules.specs.Tables as tables
use Rattle.go_exprs_rules.specs.Typing.{answer}
use Rattle.go_exprs_types.specs.Naming.{names, text_in}
use Rattle.go_exprs_engine.specs.Literals.{AllRead}
use Rattle.go_exprs_engine.proofs.Rows.{left, next, left_none}
use Rattle.go_exprs_engine.proofs.Steps.{node_fails, node_done, skipped, typed_more, part_fails, next_is, read_at}
use Rattle.go_exprs_engine.proofs.Stays.{told_is, names_stay, hint_stays, hint_known, parts_stay, parts_known, scope_known, basics_stay}
use Rattle.go_exprs_engine.proofs.Nodes.{known_append}
use Rattle.go_exprs_engine.proofs.engine.+typing.Goals as goal

pub type_node-returns-in_err-parts-clause-exact : goal.type_node-returns-in_err-parts-clause-exact
type_node-returns-in_err-parts-clause-exact t c =
    let s = names c.args.types.now c.args.scope.now in
    let h = hint_seen c.args.types.now c.args.hint in
    let shown : Vec (Option TypedNode) Global → Parts = λ v. map (option_map (seen c.type_parts.new.types)) v.items in
    node_fails (seen c.type_parts.new.types) s h shown (view c.args.node.now) c.kind-kind.result (views c.parts.result.now) c.in_err-parts.field-0.0 c.from_residual.result c.kind-kind.ensures c.parts.ensures c.in_err-parts.ensures.exact (search rules)

pub type_node-returns-clause-exact : goal.type_node-returns-clause-exact
type_node-returns-clause-exact t c =
    let a = c.args.types.now in
    let b = c.type_parts.new.types in
    let s = names a c.args.scope.now in
    let h = hint_seen a c.args.hint in
    let k = c.kind-kind.result in
    let i = c.first-first.result in
    let j = c.last-last.result in
    let xs = map (option_map (seen b)) c.in_ok-parts.parts.items in
    let here = subst (λ z. Gives (seen c.build.new.types) refusal_of c.build.result (judged (least (found z k h i j xs)) (built z k h i j xs))) (names_stay a b c.count.ensures.table c.type_parts.ensures.grows c.args.scope.now c.requires.scope)
    (subst (λ z. Gives (seen c.build.new.types) refusal_of c.build.result (judged (least (found (names b c.args.scope.now) k z i j xs)) (built (names b c.args.scope.now) k z i j xs))) (hint_stays a b c.count.ensures.table c.type_parts.ensures.grows.extends c.args.hint c.requires.hint) c.build.ensures.exact) in
    node_done (seen c.build.new.types) s h (view c.args.node.now) k i j (views c.parts.result.now) xs c.build.result c.kind-kind.ensures c.first-first.ensures c.last-last.ensures c.parts.ensures c.in_ok-parts.ensures.exact here

pub type_parts-loop-place-preserved-in_default : goal.type_parts-loop-place-preserved-in_default
type_parts-loop-place-preserved-in_default t c =
    let b = c.loop-place.types in
    let f = option_map (seen b) in (
      c.loop-place.invariant.0,
      subst (AllKnown (length b.shapes)) (sym c.in_ok-push.ensures.items) (known_append (length b.shapes) c.loop-place.parts.items (None ∷ []) c.loop-place.invariant.1 tt),
      skipped (names c.args.types.now c.args.scope.now) c.args.kind (hint_seen c.args.types.now c.args.hint) (views c.args.written.now) c.args.written.now c.loop-place.place-index (map f c.loop-place.parts.items) (map f c.push.new.self.items) c.place-item.result _ c.loop-place-test.true
          (sym c.place-item.is ∙ c.in_default.is) (ap (map f) c.in_ok-push.ensures.items ∙ map-append f c.loop-place.parts.items (None ∷ [])) c.loop-place.invariant.2,
    )

pub type_parts-type_node-requires : goal.type_parts-type_node-requires
type_parts-type_node-requires t c =
    let a = c.args.types.now in
    let b = c.loop-place.types in
    let row = c.args.written.now in
    let i = c.loop-place.place-index in
    let there : slice_get row i ≡ Some (Some c.in-Some.node) = slice_get_read row (length row) i c.place-item.result refl c.loop-place-test.true c.place-item.is ∙ ap Some c.in-Some.is in
    let low : height (view c.in-Some.node) < heights (views row) = height-part row i c.in-Some.node there in
    let grown = c.loop-place.invariant.0 in
    let known = c.part_scope-inner.ensures.known (length b.shapes) (scope_known a b c.count.ensures.table grown c.args.scope.now c.requires.scope) in
    let basics = subst (AreBasics b) (sym c.part_scope-inner.ensures.basics) (basics_stay a b c.count.ensures.table grown.extends c.args.scope.now.basics c.requires.basics) in
    let literals = subst (λ ts. AllRead ts (view c.in-Some.node)) (sym c.part_scope-inner.ensures.texts) (read_at (text_in c.args.scope.now) row i c.in-Some.node there c.requires.literals) in
    (omega (arith, low, c.decreases), (known, (basics, (c.hint-told.ensures.known, literals))))

pub type_parts-returns-in_err-part-clause-exact : goal.type_parts-returns-in_err-part-clause-exact
type_parts-returns-in_err-part-clause-exact t c =
    let a = c.args.types.now in
    let b = c.loop-place.types in
    let d = c.type_node.new.types in
    let s = names a c.args.scope.now in
    let h = hint_seen a c.args.hint in
    let all = views c.args.written.now in
    let xs = map (option_map (seen b)) c.loop-place.parts.items in
    let grown = c.loop-place.invariant.0 in
    let told = told_is a b c.count.ensures.table grown c.args.scope.now c.requires.scope c.args.kind c.args.hint c.requires.hint all xs (kind_of (view c.in-Some.node)) c.kind.result (hint_seen b c.hint-told.result) c.kind.ensures
    (c.hint-told.ensures.tree (names b c.args.scope.now) refl ∙ ap (λ ns. tables.hint (names b c.args.scope.now) c.args.kind (hint_seen b c.args.hint) all (map (option_map (seen b)) ns) c.kind.result) c.deref-in-loop-place.ensures.value) in
    let inner = names b c.part_scope-inner.result in
    let there : inner ≡ part_scope s c.args.kind xs = c.part_scope-inner.ensures.names ∙ ap (λ ns. part_scope (names b c.args.scope.now) c.args.kind (map (option_map (seen b)) ns)) c.deref.ensures.value
    ∙ ap (λ z. part_scope z c.args.kind xs) (names_stay a b c.count.ensures.table grown c.args.scope.now c.requires.scope) in
    let own = next_is s c.args.kind h all xs (view c.in-Some.node) inner (hint_seen b c.hint-told.result) there told in
    let mine = c.in_err-part.ensures.exact in
    part_fails s c.args.kind h all c.args.written.now c.loop-place.place-index (λ v. map (option_map (seen d)) v.items) (seen d) xs c.in-Some.node c.in_err-part.field-0.0 c.from_residual-in_err-part.result c.place-item.result _ c.loop-place-test.true
    (sym c.place-item.is ∙ c.in-Some.is) (subst (Gives (seen d) refusal_of (Err c.in_err-part.field-0.0)) (sym own) mine) (search rules) c.loop-place.invariant.2

pub type_parts-loop-place-preserved : goal.type_parts-loop-place-preserved
type_parts-loop-place-preserved t c =
    let a = c.args.types.now in
    let b = c.loop-place.types in
    let d = c.type_node.new.types in
    let s = names a c.args.scope.now in
    let h = hint_seen a c.args.hint in
    let all = views c.args.written.now in
    let ns = c.loop-place.parts.items in
    let xs = map (option_map (seen b)) ns in
    let x = c.in_ok-part.part in
    let f = option_map (seen d) in
    let grown = c.loop-place.invariant.0 in
    let later = c.type_node.ensures.grows in
    let told = told_is a b c.count.ensures.table grown c.args.scope.now c.requires.scope c.args.kind c.args.hint c.requires.hint all xs (kind_of (view c.in-Some.node)) c.kind.result (hint_seen b c.hint-told.result) c.kind.ensures
    (c.hint-told.ensures.tree (names b c.args.scope.now) refl ∙ ap (λ ns. tables.hint (names b c.args.scope.now) c.args.kind (hint_seen b c.args.hint) all (map (option_map (seen b)) ns) c.kind.result) c.deref-in-loop-place.ensures.value) in
    let inner = names b c.part_scope-inner.result in
    let there : inner ≡ part_scope s c.args.kind xs = c.part_scope-inner.ensures.names ∙ ap (λ ns. part_scope (names b c.args.scope.now) c.args.kind (map (option_map (seen b)) ns)) c.deref.ensures.value
    ∙ ap (λ z. part_scope z c.args.kind xs) (names_stay a b c.count.ensures.table grown c.args.scope.now c.requires.scope) in
    let own = next_is s c.args.kind h all xs (view c.in-Some.node) inner (hint_seen b c.hint-told.result) there told in
    let mine = c.in_ok-part.ensures.exact in (
      grows_both a b d grown later,
      subst (AllKnown (length d.shapes)) (sym c.in_ok-push-2.ensures.items) (known_append (length d.shapes) ns (Some x ∷ []) (parts_known b d grown.table later.extends ns c.loop-place.invariant.1) (c.in_ok-part.ensures.known, tt)),
      typed_more s c.args.kind h all c.args.written.now c.loop-place.place-index xs (map f c.push-in-loop-place.new.self.items) c.in-Some.node (seen d x) c.place-item.result _ c.loop-place-test.true
          (sym c.place-item.is ∙ c.in-Some.is) (own ∙ mine)
          (ap (map f) c.in_ok-push-2.ensures.items ∙ map-append f ns (Some x ∷ []) ∙ ap (λ ys. ys ++ Some (seen d x) ∷ []) (parts_stay b d grown.table later.extends ns c.loop-place.invariant.1))
          c.loop-place.invariant.2,
    )

pub type_node-returns-clause-grows : goal.type_node-returns-clause-grows
type_node-returns-clause-grows t c = grows_both c.args.types.now c.type_parts.new.types c.build.new.types c.type_parts.ensures.grows c.build.ensures.grows

pub type_node-build-requires-clause-basics : goal.type_node-build-requires-clause-basics
type_node-build-requires-clause-basics t c = basics_stay c.args.types.now c.type_parts.new.types c.count.ensures.table c.type_parts.ensures.grows.extends c.args.scope.now.basics c.requires.basics

pub type_node-build-requires-clause-scope : goal.type_node-build-requires-clause-scope
type_node-build-requires-clause-scope t c = scope_known c.args.types.now c.type_parts.new.types c.count.ensures.table c.type_parts.ensures.grows c.args.scope.now c.requires.scope

pub type_parts-returns-in_err-part-clause-grows : goal.type_parts-returns-in_err-part-clause-grows
type_parts-returns-in_err-part-clause-grows t c = grows_both c.args.types.now c.loop-place.types c.type_node.new.types c.loop-place.invariant.0 c.type_node.ensures.grows

pub type_parts-returns-in_err-push-2-clause-grows : goal.type_parts-returns-in_err-push-2-clause-grows
type_parts-returns-in_err-push-2-clause-grows t c = grows_both c.args.types.now c.loop-place.types c.type_node.new.types c.loop-place.invariant.0 c.type_node.ensures.grows
