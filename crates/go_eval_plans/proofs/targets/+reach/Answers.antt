use Rattle.std.proofs.Common.{◌≡◌, ◌<◌, List, Option, drop, length, sym, subst, Ok, Err, arith}
use Rattle.std.proofs.lemmas.Result.{err_from_is_err_and}
use Rattle.go_typed.specs.declared.node.TypedNode.{TypedNode}
use Rattle.go_typed.specs.declared.node.TypedNode.TheViews.{out-TypedNode}
use Rattle.go_typed.specs.Funcs.{sizes}
use Rattle.go_typed.specs.Views.{views}
use Rattle.go_meaning.specs.Values as meant
use Rattle.go_meaning.specs.Computations.{Comp, Undecided}
use Rattle.go_meaning.specs.Doings.{at}
use Rattle.go_values.specs.Views as values
use Rattle.go_values.specs.Worlds.{world_view}
use Rattle.go_eval_plans.specs.Machines.{outcome}
use Rattle.go_eval_plans.specs.Places.{place_doing}
use Rattle.go_eval_plans.specs.Programs.{doings}
use Rattle.go_eval_plans.specs.Targets.{IsReached, Reached}
use Rattle.go_eval_plans.proofs.Nodes.{known_entry, known_below}
use Rattle.go_eval_plans.proofs.Sizes.{smaller}
use Rattle.go_eval_plans.proofs.Placing.{part_place, no_reading, is_undecided, rest_views}
use Rattle.go_eval_plans.proofs.Reaching.{reached_as, reached_local, reached_name, reached_variable, reached_blank, reached_field, reached_field_left, reached_element, reached_element_left, reached_index_left}
use Rattle.go_eval_plans.specs.declared.places.Place.TheVariants as the_place
use Rattle.go_eval_plans.proofs.targets.+reach.Goals as goal

pub returns-in_default : goal.returns-in_default
returns-in_default t c = λ n d m. no_reading c.args.checked.now n c.args.parts.now c.args.number (values.views c.args.operands.now) d m c.in_default.ensures

pub as_place-requires : goal.as_place-requires
as_place-requires t c = known_entry (length c.args.checked.now.types.shapes) c.args.parts.now c.args.number c.in-Some.node.now c.requires c.in-Some.ensures

pub returns-in-Local : goal.returns-in-Local
returns-in-Local t c = λ n d m.
    let p = c.args.checked.now in
    let us = values.views c.args.operands.now in
    let xs = (out-TypedNode c.in-Some.node.now).parts.items in
    let y = place_doing (the_place.Local c.in-Local.local) (doings p n xs) in
    let ip = part_place p n c.args.parts.now c.args.number c.in-Some.node.now y c.in-Some.ensures (c.in-Local.ensures n) in
    reached_as (at (doings p n c.args.parts.now) c.args.number) y us d m (Ok c.whole.result) ip (reached_local c.in-Local.local us d m c.whole.result c.whole.ensures.root c.whole.ensures.path)

pub returns-in-Name : goal.returns-in-Name
returns-in-Name t c = λ n d m.
    let p = c.args.checked.now in
    let us = values.views c.args.operands.now in
    let xs = (out-TypedNode c.in-Some.node.now).parts.items in
    let y = place_doing (the_place.Name c.in-Name.local) (doings p n xs) in
    let ip = part_place p n c.args.parts.now c.args.number c.in-Some.node.now y c.in-Some.ensures (c.in-Name.ensures n) in
    reached_as (at (doings p n c.args.parts.now) c.args.number) y us d m (Ok c.whole-in-Name.result) ip (reached_name c.in-Name.local us d m c.whole-in-Name.result c.whole-in-Name.ensures.root c.whole-in-Name.ensures.path)

pub returns-in-Variable : goal.returns-in-Variable
returns-in-Variable t c = λ n d m.
    let p = c.args.checked.now in
    let us = values.views c.args.operands.now in
    let xs = (out-TypedNode c.in-Some.node.now).parts.items in
    let y = place_doing (the_place.Variable c.in-Variable.variable) (doings p n xs) in
    let ip = part_place p n c.args.parts.now c.args.number c.in-Some.node.now y c.in-Some.ensures (c.in-Variable.ensures n) in
    reached_as (at (doings p n c.args.parts.now) c.args.number) y us d m (Ok c.whole-in-Variable.result) ip (reached_variable c.in-Variable.variable us d m c.whole-in-Variable.result c.whole-in-Variable.ensures.root c.whole-in-Variable.ensures.path)

pub returns-in-Blank : goal.returns-in-Blank
returns-in-Blank t c = λ n d m.
    let p = c.args.checked.now in
    let us = values.views c.args.operands.now in
    let xs = (out-TypedNode c.in-Some.node.now).parts.items in
    let y = place_doing the_place.Blank (doings p n xs) in
    let ip = part_place p n c.args.parts.now c.args.number c.in-Some.node.now y c.in-Some.ensures (c.in-Blank.ensures n) in
    reached_as (at (doings p n c.args.parts.now) c.args.number) y us d m (Ok c.whole-in-Blank.result) ip (reached_blank us d m c.whole-in-Blank.result c.whole-in-Blank.ensures.root c.whole-in-Blank.ensures.path)

pub returns-in-Inner : goal.returns-in-Inner
returns-in-Inner t c = λ n d m.
    let p = c.args.checked.now in
    let us = values.views c.args.operands.now in
    let xs = (out-TypedNode c.in-Some.node.now).parts.items in
    let y = place_doing the_place.Inner (doings p n xs) in
    let ip = part_place p n c.args.parts.now c.args.number c.in-Some.node.now y c.in-Some.ensures (c.in-Inner.ensures n) in
    reached_as (at (doings p n c.args.parts.now) c.args.number) y us d m c.reach.result ip (subst (λ (ys : List (Option TypedNode)). IsReached (at (doings p n ys) 0) us d m c.reach.result) c.deref.ensures.value (c.reach.ensures n d m))

pub returns-in_ok-inner-in-Field : goal.returns-in_ok-inner-in-Field
returns-in_ok-inner-in-Field t c = λ n d m.
    let p = c.args.checked.now in
    let us = values.views c.args.operands.now in
    let xs = (out-TypedNode c.in-Some.node.now).parts.items in
    let y = place_doing (the_place.Field c.in-Field.field) (doings p n xs) in
    let ip = part_place p n c.args.parts.now c.args.number c.in-Some.node.now y c.in-Some.ensures (c.in-Field.ensures n) in
    let s = c.in_ok-whole-in-Field.whole in
    let inner : Reached (at (doings p n xs) 0) us d m s = subst (λ (ys : List (Option TypedNode)). Reached (at (doings p n ys) 0) us d m s) c.deref-in-Field.ensures.value (c.in_ok-whole-in-Field.ensures n d m) in
    reached_as (at (doings p n c.args.parts.now) c.args.number) y us d m (Ok c.in_ok-inner-in-Field.field-0) ip (reached_field c.in-Field.field (at (doings p n xs) 0) us d m s c.in_ok-inner-in-Field.field-0 inner c.in_ok-inner-in-Field.ensures)

pub returns-in_err-whole-in-Field : goal.returns-in_err-whole-in-Field
returns-in_err-whole-in-Field t c = λ n d m.
    let p = c.args.checked.now in
    let us = values.views c.args.operands.now in
    let xs = (out-TypedNode c.in-Some.node.now).parts.items in
    let y = place_doing (the_place.Field c.in-Field.field) (doings p n xs) in
    let ip = part_place p n c.args.parts.now c.args.number c.in-Some.node.now y c.in-Some.ensures (c.in-Field.ensures n) in
    let q = err_from_is_err_and c.from_residual.result c.from_residual.ensures.1 in
    let e = c.in_err-whole-in-Field.field-0.0 in
    let inner : IsReached (at (doings p n xs) 0) us d m (Err e) = subst (λ (ys : List (Option TypedNode)). IsReached (at (doings p n ys) 0) us d m (Err e)) c.deref-in-Field.ensures.value (c.in_err-whole-in-Field.ensures n d m) in
    rw (q.1, q.2) (reached_as (at (doings p n c.args.parts.now) c.args.number) y us d m (Err e) ip (reached_field_left c.in-Field.field (at (doings p n xs) 0) us d m e inner))

pub returns-in_ok-inner-in-Element : goal.returns-in_ok-inner-in-Element
returns-in_ok-inner-in-Element t c = λ n d m.
    let p = c.args.checked.now in
    let us = values.views c.args.operands.now in
    let xs = (out-TypedNode c.in-Some.node.now).parts.items in
    let y = place_doing (the_place.Element c.in-Element.length) (doings p n xs) in
    let ip = part_place p n c.args.parts.now c.args.number c.in-Some.node.now y c.in-Some.ensures (c.in-Element.ensures n) in
    let s = c.in_ok-array-in-Element.array in
    let inner : Reached (at (doings p n xs) 0) (drop 1 us) d m s = subst (λ (ws : List meant.Value). Reached (at (doings p n xs) 0) ws d m s) (rest_views c.args.operands.now c.rest.result.now c.rest.ensures)
    (subst (λ (ys : List (Option TypedNode)). Reached (at (doings p n ys) 0) (values.views c.rest.result.now) d m s) c.deref-in-Element.ensures.value (c.in_ok-array-in-Element.ensures n d m)) in
    reached_as (at (doings p n c.args.parts.now) c.args.number) y us d m (Ok c.in_ok-inner-in-Element.field-0) ip (reached_element c.in-Element.length (at (doings p n xs) 0) (at (doings p n xs) 1) us d m s c.in_ok-inner-in-Element.field-0 c.in_ok-place-in-Element.place inner c.in_ok-place-in-Element.ensures c.in_ok-inner-in-Element.ensures)

pub returns-in_err-array-in-Element : goal.returns-in_err-array-in-Element
returns-in_err-array-in-Element t c = λ n d m.
    let p = c.args.checked.now in
    let us = values.views c.args.operands.now in
    let xs = (out-TypedNode c.in-Some.node.now).parts.items in
    let y = place_doing (the_place.Element c.in-Element.length) (doings p n xs) in
    let ip = part_place p n c.args.parts.now c.args.number c.in-Some.node.now y c.in-Some.ensures (c.in-Element.ensures n) in
    let q = err_from_is_err_and c.from_residual-in_err-array-in-Element.result c.from_residual-in_err-array-in-Element.ensures.1 in
    let e = c.in_err-array-in-Element.field-0.0 in
    let inner : IsReached (at (doings p n xs) 0) (drop 1 us) d m (Err e) = subst (λ (ws : List meant.Value). IsReached (at (doings p n xs) 0) ws d m (Err e)) (rest_views c.args.operands.now c.rest.result.now c.rest.ensures)
    (subst (λ (ys : List (Option TypedNode)). IsReached (at (doings p n ys) 0) (values.views c.rest.result.now) d m (Err e)) c.deref-in-Element.ensures.value (c.in_err-array-in-Element.ensures n d m)) in
    rw (q.1, q.2) (reached_as (at (doings p n c.args.parts.now) c.args.number) y us d m (Err e) ip (reached_element_left c.in-Element.length (at (doings p n xs) 0) (at (doings p n xs) 1) us d m e inner))

pub returns-in_err-place-in-Element : goal.returns-in_err-place-in-Element
returns-in_err-place-in-Element t c = λ n d m.
    let p = c.args.checked.now in
    let us = values.views c.args.operands.now in
    let xs = (out-TypedNode c.in-Some.node.now).parts.items in
    let y = place_doing (the_place.Element c.in-Element.length) (doings p n xs) in
    let ip = part_place p n c.args.parts.now c.args.number c.in-Some.node.now y c.in-Some.ensures (c.in-Element.ensures n) in
    let q = err_from_is_err_and c.from_residual-in_err-place-in-Element.result c.from_residual-in_err-place-in-Element.ensures.1 in
    let e = c.in_err-place-in-Element.field-0.0 in
    let s = c.in_ok-array-in-Element.array in
    let inner : Reached (at (doings p n xs) 0) (drop 1 us) d m s = subst (λ (ws : List meant.Value). Reached (at (doings p n xs) 0) ws d m s) (rest_views c.args.operands.now c.rest.result.now c.rest.ensures)
    (subst (λ (ys : List (Option TypedNode)). Reached (at (doings p n ys) 0) (values.views c.rest.result.now) d m s) c.deref-in-Element.ensures.value (c.in_ok-array-in-Element.ensures n d m)) in
    rw (q.1, q.2) (reached_as (at (doings p n c.args.parts.now) c.args.number) y us d m (Err e) ip (reached_index_left c.in-Element.length (at (doings p n xs) 0) (at (doings p n xs) 1) us d m s e inner c.in_err-place-in-Element.ensures))

pub returns-in-Cell : goal.returns-in-Cell
returns-in-Cell t c = λ n d m.
    let p = c.args.checked.now in
    let us = values.views c.args.operands.now in
    let xs = (out-TypedNode c.in-Some.node.now).parts.items in
    let y = place_doing the_place.Cell (doings p n xs) in
    let ip = part_place p n c.args.parts.now c.args.number c.in-Some.node.now y c.in-Some.ensures (c.in-Cell.ensures n) in
    reached_as (at (doings p n c.args.parts.now) c.args.number) y us d m c.cell.result ip (c.cell.ensures (at (doings p n xs) 0) (at (doings p n xs) 1) d m)

pub returns-in-Case : goal.returns-in-Case
returns-in-Case t c = λ n d m.
    let p = c.args.checked.now in
    let us = values.views c.args.operands.now in
    let xs = (out-TypedNode c.in-Some.node.now).parts.items in
    let y = place_doing (the_place.Case c.in-Case.field-0) (doings p n xs) in
    let ip = part_place p n c.args.parts.now c.args.number c.in-Some.node.now y c.in-Some.ensures (c.in-Case.ensures n) in
    subst (λ (g : List meant.Value → Comp). outcome (g us) d m ≡ Undecided (world_view m.world).output) (sym ip.load) (is_undecided d m)

pub returns-in-Otherwise : goal.returns-in-Otherwise
returns-in-Otherwise t c = λ n d m.
    let p = c.args.checked.now in
    let us = values.views c.args.operands.now in
    let xs = (out-TypedNode c.in-Some.node.now).parts.items in
    let y = place_doing the_place.Otherwise (doings p n xs) in
    let ip = part_place p n c.args.parts.now c.args.number c.in-Some.node.now y c.in-Some.ensures (c.in-Otherwise.ensures n) in
    subst (λ (g : List meant.Value → Comp). outcome (g us) d m ≡ Undecided (world_view m.world).output) (sym ip.load) (is_undecided d m)

pub returns-in-Nothing : goal.returns-in-Nothing
returns-in-Nothing t c = λ n d m.
    let p = c.args.checked.now in
    let us = values.views c.args.operands.now in
    let xs = (out-TypedNode c.in-Some.node.now).parts.items in
    let y = place_doing the_place.Nothing (doings p n xs) in
    let ip = part_place p n c.args.parts.now c.args.number c.in-Some.node.now y c.in-Some.ensures (c.in-Nothing.ensures n) in
    subst (λ (g : List meant.Value → Comp). outcome (g us) d m ≡ Undecided (world_view m.world).output) (sym ip.load) (is_undecided d m)

pub reach-requires : goal.reach-requires
reach-requires t c =
    let low : sizes (views c.deref.result.now) < sizes (views c.args.parts.now) = smaller c.args.parts.now c.args.number c.in-Some.node.now c.deref.result.now c.in-Some.ensures c.deref.ensures.value in
    (omega (arith, low, c.decreases), known_below (length c.args.checked.now.types.shapes) c.args.parts.now c.args.number c.in-Some.node.now c.deref.result.now c.requires c.in-Some.ensures c.deref.ensures.value)

pub reach-requires-in-Field : goal.reach-requires-in-Field
reach-requires-in-Field t c =
    let low : sizes (views c.deref-in-Field.result.now) < sizes (views c.args.parts.now) = smaller c.args.parts.now c.args.number c.in-Some.node.now c.deref-in-Field.result.now c.in-Some.ensures c.deref-in-Field.ensures.value in
    (omega (arith, low, c.decreases), known_below (length c.args.checked.now.types.shapes) c.args.parts.now c.args.number c.in-Some.node.now c.deref-in-Field.result.now c.requires c.in-Some.ensures c.deref-in-Field.ensures.value)

pub reach-requires-in-Element : goal.reach-requires-in-Element
reach-requires-in-Element t c =
    let low : sizes (views c.deref-in-Element.result.now) < sizes (views c.args.parts.now) = smaller c.args.parts.now c.args.number c.in-Some.node.now c.deref-in-Element.result.now c.in-Some.ensures c.deref-in-Element.ensures.value in
    (omega (arith, low, c.decreases), known_below (length c.args.checked.now.types.shapes) c.args.parts.now c.args.number c.in-Some.node.now c.deref-in-Element.result.now c.requires c.in-Some.ensures c.deref-in-Element.ensures.value)
