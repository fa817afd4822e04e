use Rattle.std.proofs.Common.{◌≡◌, ◌<◌, List, [], ◌∷◌, Option, drop, length, sym, ap, ◌∙◌, subst, Err, arith}
use Rattle.std.proofs.lemmas.Result.{err_from_is_err_and}
use Rattle.go_typed.specs.declared.node.TypedNode.{TypedNode}
use Rattle.go_typed.specs.declared.node.TypedNode.TheViews.{out-TypedNode}
use Rattle.go_typed.specs.Funcs.{sizes}
use Rattle.go_typed.specs.Views.{views}
use Rattle.go_meaning.specs.Values as meant
use Rattle.go_meaning.specs.Values.{nth}
use Rattle.go_meaning.specs.Computations.{Comp, Undecided, give}
use Rattle.go_values.specs.Deeds.{IsDone}
use Rattle.go_meaning.specs.Doings.{at}
use Rattle.go_meaning.specs.Operations.{Cell, Element, Field, ReadVariable, Gives, operate, perform}
use Rattle.go_values.specs.Views as values
use Rattle.go_eval_plans.specs.Machines.{outcome, IsRead, IsLeft, Reads}
use Rattle.go_eval_plans.specs.Places.{place_doing}
use Rattle.go_eval_plans.specs.Programs.{doings}
use Rattle.go_eval_plans.proofs.Nodes.{known_entry, known_below}
use Rattle.go_eval_plans.proofs.Sizes.{smaller}
use Rattle.go_eval_plans.proofs.Placing.{part_place, no_reading, is_undecided, reads_local, reads_nothing, reads_by, one_reads, one_left, one_then_left, left_done, rest_views}
use Rattle.go_values.proofs.Public.{view_nil}
use Rattle.go_values.specs.declared.value.Value as code
use Rattle.go_values.specs.Worlds.{world_view}
use Rattle.go_eval_plans.specs.declared.places.Place.TheVariants as the_place
use Rattle.go_eval_plans.proofs.places.+load.Goals as goal

pub returns-in_default : goal.returns-in_default
returns-in_default t c = λ n d. no_reading c.args.checked.now n c.args.parts.now c.args.number (values.views c.args.operands.now) d c.args.machine.now c.in_default.ensures

pub as_place-requires : goal.as_place-requires
as_place-requires t c = known_entry (length c.args.checked.now.types.shapes) c.args.parts.now c.args.number c.in-Some.node.now c.requires c.in-Some.ensures

pub returns-in-Local : goal.returns-in-Local
returns-in-Local t c = λ n d.
    let p = c.args.checked.now in
    let us = values.views c.args.operands.now in
    let m = c.args.machine.now in
    let v = values.view c.in_ok-copy_of-in-Local.field-0 in
    let ip = part_place p n c.args.parts.now c.args.number c.in-Some.node.now (place_doing (the_place.Local c.in-Local.local) (doings p n (out-TypedNode c.in-Some.node.now).parts.items)) c.in-Some.ensures (c.in-Local.ensures n) in
    subst (λ (g : List meant.Value → Comp). Reads (g us) d m v) (sym ip.load) (reads_local c.in-Local.local d m v (c.in_ok-copy_of-in-Local.ensures ∙ (c.operand.ensures ∙ ap (λ vs. nth (values.views vs) c.in-Local.local) c.deref.ensures.value)))

pub returns-in-Name : goal.returns-in-Name
returns-in-Name t c = λ n d.
    let p = c.args.checked.now in
    let us = values.views c.args.operands.now in
    let m = c.args.machine.now in
    let v = values.view c.in_ok-copy_of-in-Name.field-0 in
    let ip = part_place p n c.args.parts.now c.args.number c.in-Some.node.now (place_doing (the_place.Name c.in-Name.local) (doings p n (out-TypedNode c.in-Some.node.now).parts.items)) c.in-Some.ensures (c.in-Name.ensures n) in
    subst (λ (g : List meant.Value → Comp). Reads (g us) d m v) (sym ip.load) (reads_local c.in-Name.local d m v (c.in_ok-copy_of-in-Name.ensures ∙ (c.operand-in-Name.ensures ∙ ap (λ vs. nth (values.views vs) c.in-Name.local) c.deref-in-Name.ensures.value)))

pub returns-in-Variable : goal.returns-in-Variable
returns-in-Variable t c = λ n d.
    let p = c.args.checked.now in
    let us = values.views c.args.operands.now in
    let m = c.args.machine.now in
    let v = values.view c.in_ok-read_variable-in-Variable.field-0 in
    let ip = part_place p n c.args.parts.now c.args.number c.in-Some.node.now (place_doing (the_place.Variable c.in-Variable.variable) (doings p n (out-TypedNode c.in-Some.node.now).parts.items)) c.in-Some.ensures (c.in-Variable.ensures n) in
    subst (λ (g : List meant.Value → Comp). Reads (g us) d m v) (sym ip.load) (reads_by (ReadVariable c.in-Variable.variable) [] d m v c.in_ok-read_variable-in-Variable.ensures)

pub returns-in-Blank : goal.returns-in-Blank
returns-in-Blank t c = λ n d.
    let p = c.args.checked.now in
    let us = values.views c.args.operands.now in
    let m = c.args.machine.now in
    let ip = part_place p n c.args.parts.now c.args.number c.in-Some.node.now (place_doing the_place.Blank (doings p n (out-TypedNode c.in-Some.node.now).parts.items)) c.in-Some.ensures (c.in-Blank.ensures n) in
    subst (λ (g : List meant.Value → Comp). Reads (g us) d m (values.view code.NilFunction)) (sym ip.load) (subst (λ (v : meant.Value). Reads (give []) d m v) (sym view_nil) (reads_nothing d m))

pub returns-in-Inner : goal.returns-in-Inner
returns-in-Inner t c = λ n d.
    let p = c.args.checked.now in
    let us = values.views c.args.operands.now in
    let m = c.args.machine.now in
    let ip = part_place p n c.args.parts.now c.args.number c.in-Some.node.now (place_doing the_place.Inner (doings p n (out-TypedNode c.in-Some.node.now).parts.items)) c.in-Some.ensures (c.in-Inner.ensures n) in
    subst (λ (g : List meant.Value → Comp). IsRead (g us) d m c.load.result) (sym ip.load)
    (subst (λ (ys : List (Option TypedNode)). IsRead ((at (doings p n ys) 0).load us) d m c.load.result) c.deref-in-Inner.ensures.value (c.load.ensures n d))

pub returns-in-Field : goal.returns-in-Field
returns-in-Field t c = λ n d.
    let p = c.args.checked.now in
    let us = values.views c.args.operands.now in
    let m = c.args.machine.now in
    let v = values.view c.in_ok-field-in-Field.field-0 in
    let u = values.view c.in_ok-whole-in-Field.whole in
    let xs = (out-TypedNode c.in-Some.node.now).parts.items in
    let ip = part_place p n c.args.parts.now c.args.number c.in-Some.node.now (place_doing (the_place.Field c.in-Field.number) (doings p n xs)) c.in-Some.ensures (c.in-Field.ensures n) in
    let whole : Reads ((at (doings p n xs) 0).load us) d m u = subst (λ (ys : List (Option TypedNode)). Reads ((at (doings p n ys) 0).load us) d m u) c.deref-in-Field.ensures.value (c.in_ok-whole-in-Field.ensures n d) in
    subst (λ (g : List meant.Value → Comp). Reads (g us) d m v) (sym ip.load)
    (one_reads ((at (doings p n xs) 0).load us) (λ w. operate (Field c.in-Field.number) (w ∷ [])) d m u v whole (reads_by (Field c.in-Field.number) (u ∷ []) d m v (c.in_ok-field-in-Field.ensures (world_view m.world))))

pub load-requires : goal.load-requires
load-requires t c =
    let low : sizes (views c.deref-in-Inner.result.now) < sizes (views c.args.parts.now) = smaller c.args.parts.now c.args.number c.in-Some.node.now c.deref-in-Inner.result.now c.in-Some.ensures c.deref-in-Inner.ensures.value in
    (omega (arith, low, c.decreases), known_below (length c.args.checked.now.types.shapes) c.args.parts.now c.args.number c.in-Some.node.now c.deref-in-Inner.result.now c.requires c.in-Some.ensures c.deref-in-Inner.ensures.value)

pub load-requires-in-Field : goal.load-requires-in-Field
load-requires-in-Field t c =
    let low : sizes (views c.deref-in-Field.result.now) < sizes (views c.args.parts.now) = smaller c.args.parts.now c.args.number c.in-Some.node.now c.deref-in-Field.result.now c.in-Some.ensures c.deref-in-Field.ensures.value in
    (omega (arith, low, c.decreases), known_below (length c.args.checked.now.types.shapes) c.args.parts.now c.args.number c.in-Some.node.now c.deref-in-Field.result.now c.requires c.in-Some.ensures c.deref-in-Field.ensures.value)

pub load-requires-in-Element : goal.load-requires-in-Element
load-requires-in-Element t c =
    let low : sizes (views c.deref-in-Element.result.now) < sizes (views c.args.parts.now) = smaller c.args.parts.now c.args.number c.in-Some.node.now c.deref-in-Element.result.now c.in-Some.ensures c.deref-in-Element.ensures.value in
    (omega (arith, low, c.decreases), known_below (length c.args.checked.now.types.shapes) c.args.parts.now c.args.number c.in-Some.node.now c.deref-in-Element.result.now c.requires c.in-Some.ensures c.deref-in-Element.ensures.value)

pub returns-in_err-whole-in-Field : goal.returns-in_err-whole-in-Field
returns-in_err-whole-in-Field t c = λ n d.
    let p = c.args.checked.now in
    let us = values.views c.args.operands.now in
    let m = c.args.machine.now in
    let q = err_from_is_err_and c.from_residual-in_err-whole-in-Field.result c.from_residual-in_err-whole-in-Field.ensures.1 in
    let e = c.in_err-whole-in-Field.field-0.0 in
    let xs = (out-TypedNode c.in-Some.node.now).parts.items in
    let ip = part_place p n c.args.parts.now c.args.number c.in-Some.node.now (place_doing (the_place.Field c.in-Field.number) (doings p n xs)) c.in-Some.ensures (c.in-Field.ensures n) in
    let whole : IsLeft e m (outcome ((at (doings p n xs) 0).load us) d m) = subst (λ (ys : List (Option TypedNode)). IsLeft e m (outcome ((at (doings p n ys) 0).load us) d m)) c.deref-in-Field.ensures.value (c.in_err-whole-in-Field.ensures n d) in
    rw (q.1, q.2) (subst (λ (g : List meant.Value → Comp). IsLeft e m (outcome (g us) d m)) (sym ip.load) (one_left ((at (doings p n xs) 0).load us) (λ w. operate (Field c.in-Field.number) (w ∷ [])) d m e whole))

pub returns-in_err-whole-in-Element : goal.returns-in_err-whole-in-Element
returns-in_err-whole-in-Element t c = λ n d.
    let p = c.args.checked.now in
    let us = values.views c.args.operands.now in
    let m = c.args.machine.now in
    let q = err_from_is_err_and c.from_residual-in_err-whole-in-Element.result c.from_residual-in_err-whole-in-Element.ensures.1 in
    let e = c.in_err-whole-in-Element.field-0.0 in
    let xs = (out-TypedNode c.in-Some.node.now).parts.items in
    let ip = part_place p n c.args.parts.now c.args.number c.in-Some.node.now (place_doing (the_place.Element c.in-Element.length) (doings p n xs)) c.in-Some.ensures (c.in-Element.ensures n) in
    let whole : IsLeft e m (outcome ((at (doings p n xs) 0).load (drop 1 us)) d m) =
    subst (λ (ws : List meant.Value). IsLeft e m (outcome ((at (doings p n xs) 0).load ws) d m)) (rest_views c.args.operands.now c.rest.result.now c.rest.ensures)
    (subst (λ (ys : List (Option TypedNode)). IsLeft e m (outcome ((at (doings p n ys) 0).load (values.views c.rest.result.now)) d m)) c.deref-in-Element.ensures.value (c.in_err-whole-in-Element.ensures n d)) in
    rw (q.1, q.2) (subst (λ (g : List meant.Value → Comp). IsLeft e m (outcome (g us) d m)) (sym ip.load) (one_left ((at (doings p n xs) 0).load (drop 1 us)) (λ w. operate (Element c.in-Element.length) (w ∷ nth us 0 ∷ [])) d m e whole))

pub returns-in_err-element-in-Element : goal.returns-in_err-element-in-Element
returns-in_err-element-in-Element t c = λ n d.
    let p = c.args.checked.now in
    let us = values.views c.args.operands.now in
    let m = c.args.machine.now in
    let q = err_from_is_err_and c.from_residual-in_err-element-in-Element.result c.from_residual-in_err-element-in-Element.ensures.1 in
    let s = c.in_err-element-in-Element.field-0.0 in
    let u = values.view c.in_ok-whole-in-Element.whole in
    let xs = (out-TypedNode c.in-Some.node.now).parts.items in
    let ip = part_place p n c.args.parts.now c.args.number c.in-Some.node.now (place_doing (the_place.Element c.in-Element.length) (doings p n xs)) c.in-Some.ensures (c.in-Element.ensures n) in
    let whole : Reads ((at (doings p n xs) 0).load (drop 1 us)) d m u =
    subst (λ (ws : List meant.Value). Reads ((at (doings p n xs) 0).load ws) d m u) (rest_views c.args.operands.now c.rest.result.now c.rest.ensures)
    (subst (λ (ys : List (Option TypedNode)). Reads ((at (doings p n ys) 0).load (values.views c.rest.result.now)) d m u) c.deref-in-Element.ensures.value (c.in_ok-whole-in-Element.ensures n d)) in
    let done : IsDone (Err s) (world_view m.world) (perform (Element c.in-Element.length) (u ∷ nth us 0 ∷ []) (world_view m.world)) =
    subst (λ (i : meant.Value). IsDone (Err s) (world_view m.world) (perform (Element c.in-Element.length) (u ∷ i ∷ []) (world_view m.world))) c.operand-index.ensures (c.in_err-element-in-Element.ensures (world_view m.world)) in
    rw q.1 (subst (λ (g : List meant.Value → Comp). IsLeft q.0 m (outcome (g us) d m)) (sym ip.load)
    (one_then_left ((at (doings p n xs) 0).load (drop 1 us)) (λ w. operate (Element c.in-Element.length) (w ∷ nth us 0 ∷ [])) d m u q.0 whole (left_done (Element c.in-Element.length) (u ∷ nth us 0 ∷ []) d m s q.0 done q.2)))

pub returns-in-Element : goal.returns-in-Element
returns-in-Element t c = λ n d.
    let p = c.args.checked.now in
    let us = values.views c.args.operands.now in
    let m = c.args.machine.now in
    let v = values.view c.in_ok-element-in-Element.field-0 in
    let u = values.view c.in_ok-whole-in-Element.whole in
    let xs = (out-TypedNode c.in-Some.node.now).parts.items in
    let ip = part_place p n c.args.parts.now c.args.number c.in-Some.node.now (place_doing (the_place.Element c.in-Element.length) (doings p n xs)) c.in-Some.ensures (c.in-Element.ensures n) in
    let whole : Reads ((at (doings p n xs) 0).load (drop 1 us)) d m u =
    subst (λ (ws : List meant.Value). Reads ((at (doings p n xs) 0).load ws) d m u) (rest_views c.args.operands.now c.rest.result.now c.rest.ensures)
    (subst (λ (ys : List (Option TypedNode)). Reads ((at (doings p n ys) 0).load (values.views c.rest.result.now)) d m u) c.deref-in-Element.ensures.value (c.in_ok-whole-in-Element.ensures n d)) in
    let done : perform (Element c.in-Element.length) (u ∷ nth us 0 ∷ []) (world_view m.world) ≡ Gives (v ∷ []) (world_view m.world) =
    subst (λ (i : meant.Value). perform (Element c.in-Element.length) (u ∷ i ∷ []) (world_view m.world) ≡ Gives (v ∷ []) (world_view m.world)) c.operand-index.ensures (c.in_ok-element-in-Element.ensures (world_view m.world)) in
    subst (λ (g : List meant.Value → Comp). Reads (g us) d m v) (sym ip.load)
    (one_reads ((at (doings p n xs) 0).load (drop 1 us)) (λ w. operate (Element c.in-Element.length) (w ∷ nth us 0 ∷ [])) d m u v whole (reads_by (Element c.in-Element.length) (u ∷ nth us 0 ∷ []) d m v done))

pub returns-in_err-cell-in-Cell : goal.returns-in_err-cell-in-Cell
returns-in_err-cell-in-Cell t c = λ n d.
    let p = c.args.checked.now in
    let us = values.views c.args.operands.now in
    let m = c.args.machine.now in
    let q = err_from_is_err_and c.from_residual-in_err-cell-in-Cell.result c.from_residual-in_err-cell-in-Cell.ensures.1 in
    let s = c.in_err-cell-in-Cell.field-0.0 in
    let ip = part_place p n c.args.parts.now c.args.number c.in-Some.node.now (place_doing the_place.Cell (doings p n (out-TypedNode c.in-Some.node.now).parts.items)) c.in-Some.ensures (c.in-Cell.ensures n) in
    let done : IsDone (Err s) (world_view m.world) (perform Cell (nth us 0 ∷ nth us 1 ∷ []) (world_view m.world)) =
    subst (λ (i : meant.Value). IsDone (Err s) (world_view m.world) (perform Cell (nth us 0 ∷ i ∷ []) (world_view m.world))) c.operand-in-Cell.ensures
    (subst (λ (i : meant.Value). IsDone (Err s) (world_view m.world) (perform Cell (i ∷ values.view c.operand-in-Cell.result.now ∷ []) (world_view m.world))) c.operand-slice.ensures c.in_err-cell-in-Cell.ensures) in
    rw q.1 (subst (λ (g : List meant.Value → Comp). IsLeft q.0 m (outcome (g us) d m)) (sym ip.load) (left_done Cell (nth us 0 ∷ nth us 1 ∷ []) d m s q.0 done q.2))

pub returns-in-Cell : goal.returns-in-Cell
returns-in-Cell t c = λ n d.
    let p = c.args.checked.now in
    let us = values.views c.args.operands.now in
    let m = c.args.machine.now in
    let v = values.view c.in_ok-cell-in-Cell.field-0 in
    let ip = part_place p n c.args.parts.now c.args.number c.in-Some.node.now (place_doing the_place.Cell (doings p n (out-TypedNode c.in-Some.node.now).parts.items)) c.in-Some.ensures (c.in-Cell.ensures n) in
    let done : perform Cell (nth us 0 ∷ nth us 1 ∷ []) (world_view m.world) ≡ Gives (v ∷ []) (world_view m.world) =
    subst (λ (i : meant.Value). perform Cell (nth us 0 ∷ i ∷ []) (world_view m.world) ≡ Gives (v ∷ []) (world_view m.world)) c.operand-in-Cell.ensures
    (subst (λ (i : meant.Value). perform Cell (i ∷ values.view c.operand-in-Cell.result.now ∷ []) (world_view m.world) ≡ Gives (v ∷ []) (world_view m.world)) c.operand-slice.ensures c.in_ok-cell-in-Cell.ensures) in
    subst (λ (g : List meant.Value → Comp). Reads (g us) d m v) (sym ip.load) (reads_by Cell (nth us 0 ∷ nth us 1 ∷ []) d m v done)

pub returns-in-Case : goal.returns-in-Case
returns-in-Case t c = λ n d.
    let p = c.args.checked.now in
    let us = values.views c.args.operands.now in
    let m = c.args.machine.now in
    let ip = part_place p n c.args.parts.now c.args.number c.in-Some.node.now (place_doing (the_place.Case c.in-Case.field-0) (doings p n (out-TypedNode c.in-Some.node.now).parts.items)) c.in-Some.ensures (c.in-Case.ensures n) in
    subst (λ (g : List meant.Value → Comp). outcome (g us) d m ≡ Undecided (world_view m.world).output) (sym ip.load) (is_undecided d m)

pub returns-in-Otherwise : goal.returns-in-Otherwise
returns-in-Otherwise t c = λ n d.
    let p = c.args.checked.now in
    let us = values.views c.args.operands.now in
    let m = c.args.machine.now in
    let ip = part_place p n c.args.parts.now c.args.number c.in-Some.node.now (place_doing the_place.Otherwise (doings p n (out-TypedNode c.in-Some.node.now).parts.items)) c.in-Some.ensures (c.in-Otherwise.ensures n) in
    subst (λ (g : List meant.Value → Comp). outcome (g us) d m ≡ Undecided (world_view m.world).output) (sym ip.load) (is_undecided d m)

pub returns : goal.returns
returns t c = λ n d.
    let p = c.args.checked.now in
    let us = values.views c.args.operands.now in
    let m = c.args.machine.now in
    let ip = part_place p n c.args.parts.now c.args.number c.in-Some.node.now (place_doing the_place.Nothing (doings p n (out-TypedNode c.in-Some.node.now).parts.items)) c.in-Some.ensures (c.in-Nothing.ensures n) in
    subst (λ (g : List meant.Value → Comp). outcome (g us) d m ≡ Undecided (world_view m.world).output) (sym ip.load) (is_undecided d m)
