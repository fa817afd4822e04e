use Rattle.std.proofs.Common.{◌<◌, suc, List, Option, length, sym, ap, ◌∙◌, arith}
use Rattle.std.proofs.lemmas.Result.{IfOk-weaker}
use Rattle.go_typed.specs.declared.node.TypedNode.{TypedNode}
use Rattle.go_typed.specs.declared.node.TypedNode.TheViews.{out-TypedNode}
use Rattle.go_typed.specs.Funcs.{sizes}
use Rattle.go_typed.specs.Views.{views}
use Rattle.go_meaning.specs.Doings.{Doing, at}
use Rattle.go_eval_plans.specs.Places.{place_doing}
use Rattle.go_eval_plans.specs.Programs.{doings}
use Rattle.go_eval_plans.specs.declared.places.Place.TheVariants as the_place
use Rattle.go_eval_plans.proofs.Public.{at_none, known_entry, known_below, smaller, part_place}
use Rattle.go_eval_machine.proofs.stores.+width.Goals as goal

pub returns-in_default : goal.returns-in_default
returns-in_default t c = λ n. ap (λ (x : Doing). x.width) (sym (at_none c.args.checked.now n c.args.parts.now c.args.number c.in_default.ensures))

pub as_place-requires : goal.as_place-requires
as_place-requires t c = known_entry (length c.args.checked.now.types.shapes) c.args.parts.now c.args.number c.in-Some.node.now c.requires c.in-Some.ensures

pub returns-in-Local : goal.returns-in-Local
returns-in-Local t c = λ n.
    let ip = part_place c.args.checked.now n c.args.parts.now c.args.number c.in-Some.node.now (place_doing (the_place.Local c.in-Local.field-0) (doings c.args.checked.now n (out-TypedNode c.in-Some.node.now).parts.items)) c.in-Some.ensures (c.in-Local.ensures n) in
    sym ip.width

pub returns-in-Name : goal.returns-in-Name
returns-in-Name t c = λ n.
    let ip = part_place c.args.checked.now n c.args.parts.now c.args.number c.in-Some.node.now (place_doing (the_place.Name c.in-Name.field-0) (doings c.args.checked.now n (out-TypedNode c.in-Some.node.now).parts.items)) c.in-Some.ensures (c.in-Name.ensures n) in
    sym ip.width

pub returns-in-Variable : goal.returns-in-Variable
returns-in-Variable t c = λ n.
    let ip = part_place c.args.checked.now n c.args.parts.now c.args.number c.in-Some.node.now (place_doing (the_place.Variable c.in-Variable.field-0) (doings c.args.checked.now n (out-TypedNode c.in-Some.node.now).parts.items)) c.in-Some.ensures (c.in-Variable.ensures n) in
    sym ip.width

pub returns-in-Blank : goal.returns-in-Blank
returns-in-Blank t c = λ n.
    let ip = part_place c.args.checked.now n c.args.parts.now c.args.number c.in-Some.node.now (place_doing the_place.Blank (doings c.args.checked.now n (out-TypedNode c.in-Some.node.now).parts.items)) c.in-Some.ensures (c.in-Blank.ensures n) in
    sym ip.width

pub returns-in-Cell : goal.returns-in-Cell
returns-in-Cell t c = λ n.
    let ip = part_place c.args.checked.now n c.args.parts.now c.args.number c.in-Some.node.now (place_doing the_place.Cell (doings c.args.checked.now n (out-TypedNode c.in-Some.node.now).parts.items)) c.in-Some.ensures (c.in-Cell.ensures n) in
    sym ip.width

pub returns-in-Case : goal.returns-in-Case
returns-in-Case t c = λ n.
    let ip = part_place c.args.checked.now n c.args.parts.now c.args.number c.in-Some.node.now (place_doing (the_place.Case c.in-Case.field-0) (doings c.args.checked.now n (out-TypedNode c.in-Some.node.now).parts.items)) c.in-Some.ensures (c.in-Case.ensures n) in
    sym ip.width

pub returns-in-Otherwise : goal.returns-in-Otherwise
returns-in-Otherwise t c = λ n.
    let ip = part_place c.args.checked.now n c.args.parts.now c.args.number c.in-Some.node.now (place_doing the_place.Otherwise (doings c.args.checked.now n (out-TypedNode c.in-Some.node.now).parts.items)) c.in-Some.ensures (c.in-Otherwise.ensures n) in
    sym ip.width

pub width-requires : goal.width-requires
width-requires t c =
    let low : sizes (views c.deref.result.now) < sizes (views c.args.parts.now) = smaller c.args.parts.now c.args.number c.in-Some.node.now c.deref.result.now c.in-Some.ensures c.deref.ensures.value in
    (omega (arith, low, c.decreases), known_below (length c.args.checked.now.types.shapes) c.args.parts.now c.args.number c.in-Some.node.now c.deref.result.now c.requires c.in-Some.ensures c.deref.ensures.value)

pub width-requires-in-Field : goal.width-requires-in-Field
width-requires-in-Field t c =
    let low : sizes (views c.deref-in-Field.result.now) < sizes (views c.args.parts.now) = smaller c.args.parts.now c.args.number c.in-Some.node.now c.deref-in-Field.result.now c.in-Some.ensures c.deref-in-Field.ensures.value in
    (omega (arith, low, c.decreases), known_below (length c.args.checked.now.types.shapes) c.args.parts.now c.args.number c.in-Some.node.now c.deref-in-Field.result.now c.requires c.in-Some.ensures c.deref-in-Field.ensures.value)

pub width-requires-in-Element : goal.width-requires-in-Element
width-requires-in-Element t c =
    let low : sizes (views c.deref-in-Element.result.now) < sizes (views c.args.parts.now) = smaller c.args.parts.now c.args.number c.in-Some.node.now c.deref-in-Element.result.now c.in-Some.ensures c.deref-in-Element.ensures.value in
    (omega (arith, low, c.decreases), known_below (length c.args.checked.now.types.shapes) c.args.parts.now c.args.number c.in-Some.node.now c.deref-in-Element.result.now c.requires c.in-Some.ensures c.deref-in-Element.ensures.value)

pub returns-in_ok-inner-in-Inner : goal.returns-in_ok-inner-in-Inner
returns-in_ok-inner-in-Inner t c = λ n.
    let ip = part_place c.args.checked.now n c.args.parts.now c.args.number c.in-Some.node.now (place_doing the_place.Inner (doings c.args.checked.now n (out-TypedNode c.in-Some.node.now).parts.items)) c.in-Some.ensures (c.in-Inner.ensures n) in
    c.in_ok-inner-in-Inner.ensures n ∙ (ap (λ (ys : List (Option TypedNode)). (at (doings c.args.checked.now n ys) 0).width) c.deref.ensures.value ∙ sym ip.width)

pub returns-in_ok-whole-in-Field : goal.returns-in_ok-whole-in-Field
returns-in_ok-whole-in-Field t c = λ n.
    let ip = part_place c.args.checked.now n c.args.parts.now c.args.number c.in-Some.node.now (place_doing (the_place.Field c.in-Field.field-0) (doings c.args.checked.now n (out-TypedNode c.in-Some.node.now).parts.items)) c.in-Some.ensures (c.in-Field.ensures n) in
    c.in_ok-whole-in-Field.ensures n ∙ (ap (λ (ys : List (Option TypedNode)). (at (doings c.args.checked.now n ys) 0).width) c.deref-in-Field.ensures.value ∙ sym ip.width)

pub returns-in_ok-array-in-Element : goal.returns-in_ok-array-in-Element
returns-in_ok-array-in-Element t c =
    IfOk-weaker c.one_more.result _ _ (λ w h n.
    let ip = part_place c.args.checked.now n c.args.parts.now c.args.number c.in-Some.node.now (place_doing (the_place.Element c.in-Element.field-0) (doings c.args.checked.now n (out-TypedNode c.in-Some.node.now).parts.items)) c.in-Some.ensures (c.in-Element.ensures n) in
    h ∙ (ap suc (c.in_ok-array-in-Element.ensures n ∙ ap (λ (ys : List (Option TypedNode)). (at (doings c.args.checked.now n ys) 0).width) c.deref-in-Element.ensures.value) ∙ sym ip.width)) c.one_more.ensures

pub returns-in-Nothing : goal.returns-in-Nothing
returns-in-Nothing t c = λ n.
    let ip = part_place c.args.checked.now n c.args.parts.now c.args.number c.in-Some.node.now (place_doing the_place.Nothing (doings c.args.checked.now n (out-TypedNode c.in-Some.node.now).parts.items)) c.in-Some.ensures (c.in-Nothing.ensures n) in
    sym ip.width
