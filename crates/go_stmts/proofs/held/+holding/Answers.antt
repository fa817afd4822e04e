use Rattle.std.proofs.Common.{rules, ◌≡◌, ◌<◌, ◌∷◌, ◌++◌, [], ℕ, Option, Vec, Global, Some, None, Ok, Err, length, map, slice_get, refl, ap, sym, subst, ◌∙◌, arith}
use Rattle.std.proofs.lemmas.List.{map-append}
use Rattle.std.proofs.lemmas.Option.{slice_get_read}
use Rattle.std.specs.Option.{option_map}
use Rattle.go_base.specs.Gives.{Gives}
use Rattle.go_grammar.specs.Trees.{kind_of}
use Rattle.go_tree.specs.Views.{view, views}
use Rattle.go_tree.proofs.Public.{height, heights, height-part}
use Rattle.go_types_relations.proofs.Public.{grows_both}
use Rattle.go_typed.specs.declared.node.TypedNode.{TypedNode}
use Rattle.go_typed.specs.Views.{seen, AllKnown}
use Rattle.go_exprs_rules.specs.Faults.{refusal_of}
use Rattle.go_exprs_rules.specs.Hints.{hint_seen}
use Rattle.go_exprs_rules.specs.Tables.{Parts}
use Rattle.go_exprs_types.specs.Naming.{text_in}
use Rattle.go_exprs_engine.proofs.Public.{known_append, hint_stays, hint_known, parts_stay, parts_known, scope_known, basics_stay, read_at}
use Rattle.go_stmts_defs.specs.Frames.{Frame}
use Rattle.go_stmts_defs.specs.Laying as laying
use Rattle.go_stmts_defs.specs.Reading.{is_list}
use Rattle.go_stmts.specs.Held.{HasScope, held_answer, left}
use Rattle.go_stmts.proofs.Rows.{skipped, typed_more, part_fails, next_by, node_over}
use Rattle.go_stmts.proofs.Growing.{scope_stays}
use Rattle.go_stmts.proofs.held.+holding.Goals as goal

pub hold-list_node-requires-clause-locals : goal.hold-list_node-requires-clause-locals
hold-list_node-requires-clause-locals t c = (scope_known c.args.types.now c.hold_parts.new.types c.count.ensures.table c.in_ok-parts.ensures.grows c.args.scope.now c.requires.scope).locals

pub hold-returns-then-is_list-clause-exact : goal.hold-returns-then-is_list-clause-exact
hold-returns-then-is_list-clause-exact t c = λ s has.
    let a = c.args.types.now in
    let b = c.hold_parts.new.types in
    let h = hint_seen a c.args.hint in
    let k = c.kind-kind.result in
    let xs = map (option_map (seen b)) c.in_ok-parts.parts.items in
    let later = scope_stays a b c.count.ensures.table c.in_ok-parts.ensures.grows c.args.scope.now c.requires.scope s has in
    node_over s h (view c.args.node.now) k c.first-first.result c.last-last.result (views c.parts.result.now) xs c.kind-kind.ensures c.first-first.ensures c.last-last.ensures c.parts.ensures (sym c.is_list.ensures ∙ c.if-is_list.true) (c.in_ok-parts.ensures.exact s has)
    ∙ ap Ok (sym (c.in_ok-list_node.ensures.tree s later.locals))

pub hold_parts-loop-place-preserved-in_default : goal.hold_parts-loop-place-preserved-in_default
hold_parts-loop-place-preserved-in_default t c =
    let b = c.loop-place.types in
    let f = option_map (seen b) in (
      c.loop-place.invariant.0,
      subst (AllKnown (length b.shapes)) (sym c.in_ok-push.ensures.items) (known_append (length b.shapes) c.loop-place.parts.items (None ∷ []) c.loop-place.invariant.1 tt),
      λ s has. skipped s c.args.kind (hint_seen c.args.types.now c.args.hint) (views c.args.written.now) c.args.written.now c.loop-place.place-index (map f c.loop-place.parts.items) (map f c.push.new.self.items) c.place-item.result _ c.loop-place-test.true
          (sym c.place-item.is ∙ c.in_default.is) (ap (map f) c.in_ok-push.ensures.items ∙ map-append f c.loop-place.parts.items (None ∷ [])) (c.loop-place.invariant.2 s has),
    )

pub hold_parts-hold-requires : goal.hold_parts-hold-requires
hold_parts-hold-requires t c =
    let a = c.args.types.now in
    let b = c.loop-place.types in
    let row = c.args.written.now in
    let i = c.loop-place.place-index in
    let there : slice_get row i ≡ Some (Some c.in-Some.node) = slice_get_read row (length row) i c.place-item.result refl c.loop-place-test.true c.place-item.is ∙ ap Some c.in-Some.is in
    let low : height (view c.in-Some.node) < heights (views row) = height-part row i c.in-Some.node there in
    let grown = c.loop-place.invariant.0 in
    (omega (arith, low, c.decreases), (scope_known a b c.count.ensures.table grown c.args.scope.now c.requires.scope, (basics_stay a b c.count.ensures.table grown.extends c.args.scope.now.basics c.requires.basics, (c.told-told.ensures.known, read_at (text_in c.args.scope.now) row i c.in-Some.node there c.requires.literals))))

pub hold_parts-returns-in_err-part-clause-grows : goal.hold_parts-returns-in_err-part-clause-grows
hold_parts-returns-in_err-part-clause-grows t c = grows_both c.args.types.now c.loop-place.types c.hold.new.types c.loop-place.invariant.0 c.hold.ensures.grows

pub hold_parts-returns-in_err-push-2-clause-grows : goal.hold_parts-returns-in_err-push-2-clause-grows
hold_parts-returns-in_err-push-2-clause-grows t c = grows_both c.args.types.now c.loop-place.types c.hold.new.types c.loop-place.invariant.0 c.hold.ensures.grows

pub hold_parts-returns-in_err-part-clause-exact : goal.hold_parts-returns-in_err-part-clause-exact
hold_parts-returns-in_err-part-clause-exact t c = λ s has.
    let a = c.args.types.now in
    let b = c.loop-place.types in
    let d = c.hold.new.types in
    let h = hint_seen a c.args.hint in
    let all = views c.args.written.now in
    let xs = map (option_map (seen b)) c.loop-place.parts.items in
    let grown = c.loop-place.invariant.0 in
    let there = scope_stays a b c.count.ensures.table grown c.args.scope.now c.requires.scope s has in
    let told = c.told-told.ensures.tree
    ∙ ap (λ ns. laying.told c.args.kind (hint_seen b c.args.hint) all (map (option_map (seen b)) ns) c.kind.result) c.deref.ensures.value
    ∙ ap (λ z. laying.told c.args.kind z all xs c.kind.result) (hint_stays a b c.count.ensures.table grown.extends c.args.hint c.requires.hint)
    ∙ ap (laying.told c.args.kind h all xs) c.kind.ensures in
    let own = next_by s c.args.kind h all xs (view c.in-Some.node) (hint_seen b c.told-told.result) told in
    part_fails s c.args.kind h all c.args.written.now c.loop-place.place-index (λ v. map (option_map (seen d)) v.items) (seen d) xs c.in-Some.node c.in_err-part.field-0.0 c.from_residual-in_err-part.result c.place-item.result _ c.loop-place-test.true
    (sym c.place-item.is ∙ c.in-Some.is) (subst (Gives (seen d) refusal_of (Err c.in_err-part.field-0.0)) (sym own) (c.in_err-part.ensures.exact s there)) (search rules) (c.loop-place.invariant.2 s has)

pub hold_parts-loop-place-preserved : goal.hold_parts-loop-place-preserved
hold_parts-loop-place-preserved t c =
    let a = c.args.types.now in
    let b = c.loop-place.types in
    let d = c.hold.new.types in
    let h = hint_seen a c.args.hint in
    let all = views c.args.written.now in
    let ns = c.loop-place.parts.items in
    let xs = map (option_map (seen b)) ns in
    let x = c.in_ok-part.part in
    let f = option_map (seen d) in
    let grown = c.loop-place.invariant.0 in
    let later = c.hold.ensures.grows in (
      grows_both a b d grown later,
      subst (AllKnown (length d.shapes)) (sym c.in_ok-push-2.ensures.items) (known_append (length d.shapes) ns (Some x ∷ []) (parts_known b d grown.table later.extends ns c.loop-place.invariant.1) (c.in_ok-part.ensures.known, tt)),
      λ s has.
          let there = scope_stays a b c.count.ensures.table grown c.args.scope.now c.requires.scope s has in
          let told = c.told-told.ensures.tree
          ∙ ap (λ ms. laying.told c.args.kind (hint_seen b c.args.hint) all (map (option_map (seen b)) ms) c.kind.result) c.deref.ensures.value
          ∙ ap (λ z. laying.told c.args.kind z all xs c.kind.result) (hint_stays a b c.count.ensures.table grown.extends c.args.hint c.requires.hint)
          ∙ ap (laying.told c.args.kind h all xs) c.kind.ensures in
          let own = next_by s c.args.kind h all xs (view c.in-Some.node) (hint_seen b c.told-told.result) told in
          typed_more s c.args.kind h all c.args.written.now c.loop-place.place-index xs (map f c.push-in-loop-place.new.self.items) c.in-Some.node (seen d x) c.place-item.result _ c.loop-place-test.true
          (sym c.place-item.is ∙ c.in-Some.is) (own ∙ c.in_ok-part.ensures.exact s there)
          (ap (map f) c.in_ok-push-2.ensures.items ∙ map-append f ns (Some x ∷ []) ∙ ap (λ ys. ys ++ Some (seen d x) ∷ []) (parts_stay b d grown.table later.extends ns c.loop-place.invariant.1))
          (c.loop-place.invariant.2 s has),
    )
