use Rattle.std.proofs.Common.{◌≡◌, ◌+◌, ◌-◌, ◌<◌, ◌∙◌, sym, ap, length, Some, slice_get, drop, refl, arith}
use Rattle.std.proofs.lemmas.Option.{slice_get_read}
use Rattle.std.proofs.lemmas.List.{take_all, length-drop}
use Rattle.go_grammar.specs.Grammar.{ends_named}
use Rattle.go_grammar.specs.Trees.{kind_of, first, last, parts}
use Rattle.go_tree.specs.Views.{view, views}
use Rattle.go_tree.specs.Events.{is_more}
use Rattle.go_scopes_events.proofs.Heights.{height, heights, height-part, height-parts}
use Rattle.go_scopes_events.proofs.Told.{views-at, told-more}
use Rattle.go_scopes_events.proofs.walk.+walk.Goals as goal

pub walk_parts-walk-requires : goal.walk_parts-walk-requires
walk_parts-walk-requires t c =
    let there : slice_get c.parts-parts.result.now c.loop-number.number ≡ Some (Some c.in-Some.part) =
    slice_get_read c.parts-parts.result.now (length c.parts-parts.result.now) c.loop-number.number c.index-parts-number.result refl c.loop-number-test.true c.index-parts-number.is ∙ ap Some c.in-Some.is in
    let low : height (view c.in-Some.part) < heights (views c.parts-parts.result.now) = height-part c.parts-parts.result.now c.loop-number.number c.in-Some.part there in
    let same : heights (views c.parts-parts.result.now) ≡ height (view c.args.node.now) = ap heights c.parts-parts.ensures ∙ sym (height-parts (view c.args.node.now)) in
    (omega (arith, low, same, c.decreases), tt)

pub walk_parts-loop-number-preserved : goal.walk_parts-loop-number-preserved
walk_parts-loop-number-preserved t c =
    let node = view c.args.node.now in
    let row = c.parts-parts.result.now in
    let number = c.loop-number.number in
    let there : slice_get row number ≡ Some (Some c.in-Some.part) =
    slice_get_read row (length row) number c.index-parts-number.result refl c.loop-number-test.true c.index-parts-number.is ∙ ap Some c.in-Some.is in
    let behind : c.is_more-more.result ≡ is_more (views (drop (number + 1) row)) =
    c.is_more-more.ensures ∙ ap (λ ps. is_more (views ps)) (let long : length (drop (number + 1) row) ≡ length row - (number + 1) = length-drop (number + 1) row in take_all (length row - (number + 1)) (drop (number + 1) row) (omega (arith, long))) in
    told-more c.loop-number.context c.pass-context.result c.enter-below.result (kind_of node) (first node) (last node) (parts node)
    c.ends_named-named.result number (view c.in-Some.part) (views (drop number row)) (views (drop (number + 1) row)) c.is_more-more.result
    c.loop-number.out.items c.walk.new.out.items _
    (views-at row number c.in-Some.part there) (c.ends_named-named.ensures ∙ ap ends_named c.parts-parts.ensures) behind
    c.enter-below.ensures c.pass-context.ensures c.in_ok-walk.ensures c.loop-number.invariant
