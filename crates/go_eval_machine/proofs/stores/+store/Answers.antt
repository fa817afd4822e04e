use Rattle.std.proofs.Common.{◌≡◌, ◌<◌, List, [], ◌∷◌, Option, drop, length, refl, sym, ap, ◌∙◌, subst, Err, arith}
use Rattle.std.proofs.lemmas.Result.{err_from_is_err_and}
use Rattle.go_typed.specs.declared.node.TypedNode.{TypedNode}
use Rattle.go_typed.specs.declared.node.TypedNode.TheViews.{out-TypedNode}
use Rattle.go_typed.specs.Funcs.{sizes}
use Rattle.go_typed.specs.Views.{views}
use Rattle.go_meaning.specs.Values as meant
use Rattle.go_meaning.specs.Values.{nth}
use Rattle.go_meaning.specs.Computations.{Comp, Outcome, one, write}
use Rattle.go_meaning.specs.Doings.{Doing, at, element_place, field_place}
use Rattle.go_meaning.specs.Operations.{Gives, InArray, SetCell, WithElement, WithField, WriteVariable, operate, perform}
use Rattle.go_values.specs.Deeds.{IsStored}
use Rattle.go_values.specs.Views as values
use Rattle.go_values.specs.Worlds.{world_view}
use Rattle.go_eval_plans.specs.Machines.{outcome, IsLeft}
use Rattle.go_eval_plans.specs.Places.{place_doing}
use Rattle.go_eval_plans.specs.Programs.{doings}
use Rattle.go_eval_plans.specs.Targets.{Reached}
use Rattle.go_eval_plans.specs.declared.places.Place.TheVariants as the_place
use Rattle.go_eval_plans.proofs.Public.{at_none, known_entry, known_below, smaller, part_place, is_undecided, one_left, writes_by, rest_views, index_left, passed, reached_element, reached_field}
use Rattle.go_eval_machine.specs.Written.{IsWritten}
use Rattle.go_eval_machine.proofs.Writing.{written_local, written_nothing, then_left, set_left}
use Rattle.go_eval_machine.proofs.stores.+store.Goals as goal

pub returns-in_default-clause-is : goal.returns-in_default-clause-is
returns-in_default-clause-is t c = λ n d.
    ap (λ (x : Doing). outcome (x.store (values.views c.args.operands.now) (values.view c.args.value)) d c.args.machine.now) (at_none c.args.checked.now n c.args.parts.now c.args.number c.in_default.ensures) ∙ is_undecided d c.args.machine.now

pub as_place-requires : goal.as_place-requires
as_place-requires t c = known_entry (length c.args.checked.now.types.shapes) c.args.parts.now c.args.number c.in-Some.node.now c.requires c.in-Some.ensures

pub returns-in-Local-clause-is : goal.returns-in-Local-clause-is
returns-in-Local-clause-is t c = λ n d.
    let p = c.args.checked.now in
    let us = values.views c.args.operands.now in
    let v = values.view c.args.value in
    let m = c.args.machine.now in
    let ip = part_place p n c.args.parts.now c.args.number c.in-Some.node.now (place_doing (the_place.Local c.in-Local.local) (doings p n (out-TypedNode c.in-Some.node.now).parts.items)) c.in-Some.ensures (c.in-Local.ensures n) in
    ap (λ (h : List meant.Value → meant.Value → Comp). outcome (h us v) d m) ip.store
    ∙ written_local c.in-Local.local v d m (record m { frame = c.put_at.new.values }) c.put_at.ensures refl refl

pub returns-in-Name-clause-is : goal.returns-in-Name-clause-is
returns-in-Name-clause-is t c = λ n d.
    let p = c.args.checked.now in
    let us = values.views c.args.operands.now in
    let v = values.view c.args.value in
    let m = c.args.machine.now in
    let ip = part_place p n c.args.parts.now c.args.number c.in-Some.node.now (place_doing (the_place.Name c.in-Name.local) (doings p n (out-TypedNode c.in-Some.node.now).parts.items)) c.in-Some.ensures (c.in-Name.ensures n) in
    ap (λ (h : List meant.Value → meant.Value → Comp). outcome (h us v) d m) ip.store
    ∙ written_local c.in-Name.local v d m (record m { frame = c.put_at-in-Name.new.values }) c.put_at-in-Name.ensures refl refl

pub returns-in-Variable-clause-is : goal.returns-in-Variable-clause-is
returns-in-Variable-clause-is t c = λ n d.
    let p = c.args.checked.now in
    let us = values.views c.args.operands.now in
    let v = values.view c.args.value in
    let m = c.args.machine.now in
    let ip = part_place p n c.args.parts.now c.args.number c.in-Some.node.now (place_doing (the_place.Variable c.in-Variable.variable) (doings p n (out-TypedNode c.in-Some.node.now).parts.items)) c.in-Some.ensures (c.in-Variable.ensures n) in
    ap (λ (h : List meant.Value → meant.Value → Comp). outcome (h us v) d m) ip.store
    ∙ (writes_by (WriteVariable c.in-Variable.variable) (v ∷ []) d m (record m { world = c.write_variable.new.self }) c.write_variable.ensures refl refl).is

pub returns-in-Blank-clause-is : goal.returns-in-Blank-clause-is
returns-in-Blank-clause-is t c = λ n d.
    let p = c.args.checked.now in
    let us = values.views c.args.operands.now in
    let v = values.view c.args.value in
    let m = c.args.machine.now in
    let ip = part_place p n c.args.parts.now c.args.number c.in-Some.node.now (place_doing the_place.Blank (doings p n (out-TypedNode c.in-Some.node.now).parts.items)) c.in-Some.ensures (c.in-Blank.ensures n) in
    ap (λ (h : List meant.Value → meant.Value → Comp). outcome (h us v) d m) ip.store ∙ written_nothing d m

pub returns-in-Inner-clause-is : goal.returns-in-Inner-clause-is
returns-in-Inner-clause-is t c = λ n d.
    let p = c.args.checked.now in
    let us = values.views c.args.operands.now in
    let v = values.view c.args.value in
    let m = c.args.machine.now in
    let ip = part_place p n c.args.parts.now c.args.number c.in-Some.node.now (place_doing the_place.Inner (doings p n (out-TypedNode c.in-Some.node.now).parts.items)) c.in-Some.ensures (c.in-Inner.ensures n) in
    subst (λ (h : List meant.Value → meant.Value → Comp). IsWritten (outcome (h us v) d m) c.store.result c.store.new.machine) (sym ip.store)
    (subst (λ (ys : List (Option TypedNode)). IsWritten (outcome ((at (doings p n ys) 0).store us v) d m) c.store.result c.store.new.machine) c.deref.ensures.value (c.store.ensures.is n d))

pub returns-in-Case-clause-is : goal.returns-in-Case-clause-is
returns-in-Case-clause-is t c = λ n d.
    let p = c.args.checked.now in
    let us = values.views c.args.operands.now in
    let v = values.view c.args.value in
    let m = c.args.machine.now in
    let ip = part_place p n c.args.parts.now c.args.number c.in-Some.node.now (place_doing (the_place.Case c.in-Case.field-0) (doings p n (out-TypedNode c.in-Some.node.now).parts.items)) c.in-Some.ensures (c.in-Case.ensures n) in
    ap (λ (h : List meant.Value → meant.Value → Comp). outcome (h us v) d m) ip.store ∙ is_undecided d m

pub returns-in-Otherwise-clause-is : goal.returns-in-Otherwise-clause-is
returns-in-Otherwise-clause-is t c = λ n d.
    let p = c.args.checked.now in
    let us = values.views c.args.operands.now in
    let v = values.view c.args.value in
    let m = c.args.machine.now in
    let ip = part_place p n c.args.parts.now c.args.number c.in-Some.node.now (place_doing the_place.Otherwise (doings p n (out-TypedNode c.in-Some.node.now).parts.items)) c.in-Some.ensures (c.in-Otherwise.ensures n) in
    ap (λ (h : List meant.Value → meant.Value → Comp). outcome (h us v) d m) ip.store ∙ is_undecided d m

pub returns-in-Nothing-clause-is : goal.returns-in-Nothing-clause-is
returns-in-Nothing-clause-is t c = λ n d.
    let p = c.args.checked.now in
    let us = values.views c.args.operands.now in
    let v = values.view c.args.value in
    let m = c.args.machine.now in
    let ip = part_place p n c.args.parts.now c.args.number c.in-Some.node.now (place_doing the_place.Nothing (doings p n (out-TypedNode c.in-Some.node.now).parts.items)) c.in-Some.ensures (c.in-Nothing.ensures n) in
    ap (λ (h : List meant.Value → meant.Value → Comp). outcome (h us v) d m) ip.store ∙ is_undecided d m

pub returns-in_ok-inner-in-Field-clause-is : goal.returns-in_ok-inner-in-Field-clause-is
returns-in_ok-inner-in-Field-clause-is t c = λ n d.
    let p = c.args.checked.now in
    let us = values.views c.args.operands.now in
    let v = values.view c.args.value in
    let m = c.args.machine.now in
    let xs = (out-TypedNode c.in-Some.node.now).parts.items in
    let ip = part_place p n c.args.parts.now c.args.number c.in-Some.node.now (place_doing (the_place.Field c.in-Field.field) (doings p n xs)) c.in-Some.ensures (c.in-Field.ensures n) in
    let x = at (doings p n xs) 0 in
    let s = c.in_ok-whole-in-Field.whole in
    let whole : Reached x us d m s = subst (λ (ys : List (Option TypedNode)). Reached (at (doings p n ys) 0) us d m s) c.deref-in-Field.ensures.value (c.in_ok-whole-in-Field.ensures n d m) in
    subst (λ (h : List meant.Value → meant.Value → Comp). IsWritten (outcome (h us v) d m) c.write.result c.write.new.machine) (sym ip.store)
    (c.write.ensures.is (field_place c.in-Field.field x) us d (reached_field c.in-Field.field x us d m s c.in_ok-inner-in-Field.field-0 whole c.in_ok-inner-in-Field.ensures))

pub returns-in_err-whole-in-Field-clause-is : goal.returns-in_err-whole-in-Field-clause-is
returns-in_err-whole-in-Field-clause-is t c = λ n d.
    let p = c.args.checked.now in
    let us = values.views c.args.operands.now in
    let v = values.view c.args.value in
    let m = c.args.machine.now in
    let xs = (out-TypedNode c.in-Some.node.now).parts.items in
    let ip = part_place p n c.args.parts.now c.args.number c.in-Some.node.now (place_doing (the_place.Field c.in-Field.field) (doings p n xs)) c.in-Some.ensures (c.in-Field.ensures n) in
    let x = at (doings p n xs) 0 in
    let q = err_from_is_err_and c.from_residual.result c.from_residual.ensures.1 in
    let e = c.in_err-whole-in-Field.field-0.0 in
    let whole : IsLeft e m (outcome (x.load us) d m) = subst (λ (ys : List (Option TypedNode)). IsLeft e m (outcome ((at (doings p n ys) 0).load us) d m)) c.deref-in-Field.ensures.value (c.in_err-whole-in-Field.ensures n d m) in
    rw (q.1, q.2) (subst (λ (h : List meant.Value → meant.Value → Comp). IsLeft e m (outcome (h us v) d m)) (sym ip.store) (one_left (x.load us) (λ u1. one (operate (WithField c.in-Field.field) (u1 ∷ v ∷ [])) (λ r. x.store us r)) d m e whole))

pub returns-in_ok-inner-in-Element-clause-is : goal.returns-in_ok-inner-in-Element-clause-is
returns-in_ok-inner-in-Element-clause-is t c = λ n d.
    let p = c.args.checked.now in
    let us = values.views c.args.operands.now in
    let v = values.view c.args.value in
    let m = c.args.machine.now in
    let xs = (out-TypedNode c.in-Some.node.now).parts.items in
    let ip = part_place p n c.args.parts.now c.args.number c.in-Some.node.now (place_doing (the_place.Element c.in-Element.length) (doings p n xs)) c.in-Some.ensures (c.in-Element.ensures n) in
    let x = at (doings p n xs) 0 in
    let i = nth us 0 in
    let y = at (doings p n xs) 1 in
    let s = c.in_ok-array-in-Element.array in
    let array : Reached x (drop 1 us) d m s = subst (λ (ws : List meant.Value). Reached x ws d m s) (rest_views c.args.operands.now c.rest.result.now c.rest.ensures)
    (subst (λ (ys : List (Option TypedNode)). Reached (at (doings p n ys) 0) (values.views c.rest.result.now) d m s) c.deref-in-Element.ensures.value (c.in_ok-array-in-Element.ensures n d m)) in
    subst (λ (h : List meant.Value → meant.Value → Comp). IsWritten (outcome (h us v) d m) c.write-in-Element.result c.write-in-Element.new.machine) (sym ip.store)
    (c.write-in-Element.ensures.is (element_place c.in-Element.length x y) us d
    (reached_element c.in-Element.length x y us d m s c.in_ok-inner-in-Element.field-0 c.in_ok-place-in-Element.place array c.in_ok-place-in-Element.ensures c.in_ok-inner-in-Element.ensures))

pub returns-in_err-array-in-Element-clause-is : goal.returns-in_err-array-in-Element-clause-is
returns-in_err-array-in-Element-clause-is t c = λ n d.
    let p = c.args.checked.now in
    let us = values.views c.args.operands.now in
    let v = values.view c.args.value in
    let m = c.args.machine.now in
    let xs = (out-TypedNode c.in-Some.node.now).parts.items in
    let ip = part_place p n c.args.parts.now c.args.number c.in-Some.node.now (place_doing (the_place.Element c.in-Element.length) (doings p n xs)) c.in-Some.ensures (c.in-Element.ensures n) in
    let x = at (doings p n xs) 0 in
    let i = nth us 0 in
    let q = err_from_is_err_and c.from_residual-in_err-array-in-Element.result c.from_residual-in_err-array-in-Element.ensures.1 in
    let e = c.in_err-array-in-Element.field-0.0 in
    let array : IsLeft e m (outcome (x.load (drop 1 us)) d m) = subst (λ (ws : List meant.Value). IsLeft e m (outcome (x.load ws) d m)) (rest_views c.args.operands.now c.rest.result.now c.rest.ensures)
    (subst (λ (ys : List (Option TypedNode)). IsLeft e m (outcome ((at (doings p n ys) 0).load (values.views c.rest.result.now)) d m)) c.deref-in-Element.ensures.value (c.in_err-array-in-Element.ensures n d m)) in
    let behind = one (x.load (drop 1 us)) (λ u1. one (operate WithElement (u1 ∷ i ∷ v ∷ [])) (λ r. x.store (drop 1 us) r)) in
    rw (q.1, q.2) (subst (λ (h : List meant.Value → meant.Value → Comp). IsLeft e m (outcome (h us v) d m)) (sym ip.store)
    (subst (λ (oc : Outcome). IsLeft e m oc) (sym (passed c.in-Element.length i c.in_ok-place-in-Element.place behind d m c.in_ok-place-in-Element.ensures))
    (one_left (x.load (drop 1 us)) (λ u1. one (operate WithElement (u1 ∷ i ∷ v ∷ [])) (λ r. x.store (drop 1 us) r)) d m e array)))

pub returns-in_err-place-in-Element-clause-is : goal.returns-in_err-place-in-Element-clause-is
returns-in_err-place-in-Element-clause-is t c = λ n d.
    let p = c.args.checked.now in
    let us = values.views c.args.operands.now in
    let v = values.view c.args.value in
    let m = c.args.machine.now in
    let xs = (out-TypedNode c.in-Some.node.now).parts.items in
    let ip = part_place p n c.args.parts.now c.args.number c.in-Some.node.now (place_doing (the_place.Element c.in-Element.length) (doings p n xs)) c.in-Some.ensures (c.in-Element.ensures n) in
    let x = at (doings p n xs) 0 in
    let i = nth us 0 in
    let q = err_from_is_err_and c.from_residual-in_err-place-in-Element.result c.from_residual-in_err-place-in-Element.ensures.1 in
    let e = c.in_err-place-in-Element.field-0.0 in
    rw (q.1, q.2) (subst (λ (h : List meant.Value → meant.Value → Comp). IsLeft e m (outcome (h us v) d m)) (sym ip.store)
    (then_left (operate (InArray c.in-Element.length) (i ∷ [])) (λ no. one (x.load (drop 1 us)) (λ u1. one (operate WithElement (u1 ∷ i ∷ v ∷ [])) (λ r. x.store (drop 1 us) r))) d m e
    (index_left c.in-Element.length i [] d m e c.in_err-place-in-Element.ensures)))

pub returns-in_ok-set_cell-in-Cell-clause-is : goal.returns-in_ok-set_cell-in-Cell-clause-is
returns-in_ok-set_cell-in-Cell-clause-is t c = λ n d.
    let p = c.args.checked.now in
    let us = values.views c.args.operands.now in
    let v = values.view c.args.value in
    let m = c.args.machine.now in
    let xs = (out-TypedNode c.in-Some.node.now).parts.items in
    let ip = part_place p n c.args.parts.now c.args.number c.in-Some.node.now (place_doing the_place.Cell (doings p n xs)) c.in-Some.ensures (c.in-Cell.ensures n) in
    let w1 = world_view c.set_cell.new.self in
    let done : perform SetCell (nth us 0 ∷ nth us 1 ∷ v ∷ []) (world_view m.world) ≡ Gives [] w1 =
    subst (λ (i : meant.Value). perform SetCell (nth us 0 ∷ i ∷ v ∷ []) (world_view m.world) ≡ Gives [] w1) c.operand.ensures
    (subst (λ (i : meant.Value). perform SetCell (i ∷ values.view c.operand.result.now ∷ v ∷ []) (world_view m.world) ≡ Gives [] w1) c.operand-slice.ensures c.in_ok-set_cell-in-Cell.ensures) in
    ap (λ (h : List meant.Value → meant.Value → Comp). outcome (h us v) d m) ip.store
    ∙ (writes_by SetCell (nth us 0 ∷ nth us 1 ∷ v ∷ []) d m (record m { world = c.set_cell.new.self }) done refl refl).is

pub returns-in_err-set_cell-in-Cell-clause-is : goal.returns-in_err-set_cell-in-Cell-clause-is
returns-in_err-set_cell-in-Cell-clause-is t c = λ n d.
    let p = c.args.checked.now in
    let us = values.views c.args.operands.now in
    let v = values.view c.args.value in
    let m = c.args.machine.now in
    let xs = (out-TypedNode c.in-Some.node.now).parts.items in
    let ip = part_place p n c.args.parts.now c.args.number c.in-Some.node.now (place_doing the_place.Cell (doings p n xs)) c.in-Some.ensures (c.in-Cell.ensures n) in
    let q = err_from_is_err_and c.from_residual-in_err-set_cell-in-Cell.result c.from_residual-in_err-set_cell-in-Cell.ensures.1 in
    let s = c.in_err-set_cell-in-Cell.field-0.0 in
    let w = world_view m.world in
    let w1 = world_view c.set_cell.new.self in
    let m1 = record m { world = c.set_cell.new.self } in
    let done : IsStored {X = Unit {0}} (Err s) (perform SetCell (nth us 0 ∷ nth us 1 ∷ v ∷ []) w) w w1 =
    subst (λ (i : meant.Value). IsStored {X = Unit {0}} (Err s) (perform SetCell (nth us 0 ∷ i ∷ v ∷ []) w) w w1) c.operand.ensures
    (subst (λ (i : meant.Value). IsStored {X = Unit {0}} (Err s) (perform SetCell (i ∷ values.view c.operand.result.now ∷ v ∷ []) w) w w1) c.operand-slice.ensures c.in_err-set_cell-in-Cell.ensures) in
    rw q.1 (subst (λ (h : List meant.Value → meant.Value → Comp). IsLeft q.0 m1 (outcome (h us v) d m)) (sym ip.store) (set_left SetCell (nth us 0 ∷ nth us 1 ∷ v ∷ []) d m m1 s q.0 done refl refl q.2))

pub store-requires : goal.store-requires
store-requires t c =
    let low : sizes (views c.deref.result.now) < sizes (views c.args.parts.now) = smaller c.args.parts.now c.args.number c.in-Some.node.now c.deref.result.now c.in-Some.ensures c.deref.ensures.value in
    (omega (arith, low, c.decreases), known_below (length c.args.checked.now.types.shapes) c.args.parts.now c.args.number c.in-Some.node.now c.deref.result.now c.requires c.in-Some.ensures c.deref.ensures.value)

pub reach-requires : goal.reach-requires
reach-requires t c = known_below (length c.args.checked.now.types.shapes) c.args.parts.now c.args.number c.in-Some.node.now c.deref-in-Field.result.now c.requires c.in-Some.ensures c.deref-in-Field.ensures.value

pub reach-requires-in-Element : goal.reach-requires-in-Element
reach-requires-in-Element t c = known_below (length c.args.checked.now.types.shapes) c.args.parts.now c.args.number c.in-Some.node.now c.deref-in-Element.result.now c.requires c.in-Some.ensures c.deref-in-Element.ensures.value
