use Rattle.std.proofs.Common.{◌≡◌, ◌<◌, List, [], ◌∷◌, ◌++◌, drop, length, refl, sym, ap, ◌∙◌, arith}
use Rattle.std.specs.Prelude.{false}
use Rattle.go_typed.specs.declared.node.TypedNode.TheViews.{out-TypedNode}
use Rattle.go_typed.specs.Funcs.{size}
use Rattle.go_typed.specs.Views as nodes
use Rattle.go_meaning.specs.Values.{Value, Truth, nth}
use Rattle.go_meaning.specs.Doings.{at}
use Rattle.go_meaning.specs.Operations.{InArray, InSlice, operate}
use Rattle.go_values.specs.declared.value.Value as code
use Rattle.go_values.specs.Views.{views}
use Rattle.go_values.specs.Worlds.{world_view}
use Rattle.go_eval_plans.specs.Places.{place_doing}
use Rattle.go_eval_plans.specs.Programs.{doings}
use Rattle.go_eval_plans.specs.declared.places.Place.TheVariants as the_place
use Rattle.go_eval_machine.specs.declared.task.What.TheVariants as what
use Rattle.go_eval_machine.specs.Tasks.{parts_of}
use Rattle.go_eval_machine.specs.Engines.{lays}
use Rattle.go_eval_machine.proofs.Asking.{known_part}
use Rattle.go_eval_machine.proofs.Going.{goes_same, goes_given, goes_undecided}
use Rattle.go_eval_machine.proofs.Values.{view_truth}
use Rattle.go_eval_machine.specs.Tests.{tests}
use Rattle.go_eval_machine.proofs.GoingAssignments.{goes_nothing, goes_tested}
use Rattle.go_eval_machine.proofs.Finding.{is_nothing, is_undecided}
use Rattle.go_eval_machine.proofs.Testing.{smaller_part, test_none, test_some, tests_by, tests_otherwise, tests_case}
use Rattle.go_eval_machine.proofs.find.+test.Goals as goal

pub returns-in_default : goal.returns-in_default
returns-in_default t c =
    let p = c.args.checked.now in
    let x = c.args.node.now in
    let k = c.args.number in
    let b = c.args.base in
    let m = c.args.engine.now in
    let us = drop b (views m.values.items) in
    goes_undecided p (tests p x k b) m (λ n s. is_undecided s (views m.values.items) ((at (parts_of p n x) k).test us) (test_none p n x k c.deref.result.now c.deref.ensures.value c.in_default.ensures us) m.depth (views m.machine.frame.items) (world_view m.machine.world) m.machine.turns)

pub as_place-requires : goal.as_place-requires
as_place-requires t c = known_part c.args.node.now c.args.number c.deref.result.now c.deref.ensures.value (length c.args.checked.now.types.shapes) c.in-Some.asked.now c.in-Some.ensures c.requires

pub test-requires : goal.test-requires
test-requires t c =
    let low : size (nodes.view c.in-Some.asked.now) < size (nodes.view c.args.node.now) = smaller_part c.args.node.now c.in-Some.asked.now c.args.number c.deref.result.now c.deref.ensures.value c.in-Some.ensures in
    (omega (arith, low, c.decreases), known_part c.args.node.now c.args.number c.deref.result.now c.deref.ensures.value (length c.args.checked.now.types.shapes) c.in-Some.asked.now c.in-Some.ensures c.requires)

pub test-requires-in-Field : goal.test-requires-in-Field
test-requires-in-Field t c =
    let low : size (nodes.view c.in-Some.asked.now) < size (nodes.view c.args.node.now) = smaller_part c.args.node.now c.in-Some.asked.now c.args.number c.deref.result.now c.deref.ensures.value c.in-Some.ensures in
    (omega (arith, low, c.decreases), known_part c.args.node.now c.args.number c.deref.result.now c.deref.ensures.value (length c.args.checked.now.types.shapes) c.in-Some.asked.now c.in-Some.ensures c.requires)

pub returns-in-Local : goal.returns-in-Local
returns-in-Local t c =
    let p = c.args.checked.now in
    let x = c.args.node.now in
    let k = c.args.number in
    let b = c.args.base in
    let m = c.args.engine.now in
    let vs = views m.values.items in
    let y = c.in-Some.asked.now in
    let xs = c.deref.result.now in
    let e = c.deref.ensures.value in
    let h = c.in-Some.ensures in
    goes_nothing p (tests p x k b) m (λ n s. is_nothing s vs ((at (parts_of p n x) k).test (drop b vs)) (test_some p n x k xs e y h (place_doing (the_place.Local c.in-Local.field-0) (doings p n (out-TypedNode y).parts.items)) (c.in-Local.ensures n) (drop b vs)))

pub returns-in-Name : goal.returns-in-Name
returns-in-Name t c =
    let p = c.args.checked.now in
    let x = c.args.node.now in
    let k = c.args.number in
    let b = c.args.base in
    let m = c.args.engine.now in
    let vs = views m.values.items in
    let y = c.in-Some.asked.now in
    let xs = c.deref.result.now in
    let e = c.deref.ensures.value in
    let h = c.in-Some.ensures in
    goes_nothing p (tests p x k b) m (λ n s. is_nothing s vs ((at (parts_of p n x) k).test (drop b vs)) (test_some p n x k xs e y h (place_doing (the_place.Name c.in-Name.field-0) (doings p n (out-TypedNode y).parts.items)) (c.in-Name.ensures n) (drop b vs)))

pub returns-in-Variable : goal.returns-in-Variable
returns-in-Variable t c =
    let p = c.args.checked.now in
    let x = c.args.node.now in
    let k = c.args.number in
    let b = c.args.base in
    let m = c.args.engine.now in
    let vs = views m.values.items in
    let y = c.in-Some.asked.now in
    let xs = c.deref.result.now in
    let e = c.deref.ensures.value in
    let h = c.in-Some.ensures in
    goes_nothing p (tests p x k b) m (λ n s. is_nothing s vs ((at (parts_of p n x) k).test (drop b vs)) (test_some p n x k xs e y h (place_doing (the_place.Variable c.in-Variable.field-0) (doings p n (out-TypedNode y).parts.items)) (c.in-Variable.ensures n) (drop b vs)))

pub returns-in-Blank : goal.returns-in-Blank
returns-in-Blank t c =
    let p = c.args.checked.now in
    let x = c.args.node.now in
    let k = c.args.number in
    let b = c.args.base in
    let m = c.args.engine.now in
    let vs = views m.values.items in
    let y = c.in-Some.asked.now in
    let xs = c.deref.result.now in
    let e = c.deref.ensures.value in
    let h = c.in-Some.ensures in
    goes_nothing p (tests p x k b) m (λ n s. is_nothing s vs ((at (parts_of p n x) k).test (drop b vs)) (test_some p n x k xs e y h (place_doing the_place.Blank (doings p n (out-TypedNode y).parts.items)) (c.in-Blank.ensures n) (drop b vs)))

pub returns-in-Inner : goal.returns-in-Inner
returns-in-Inner t c =
    let p = c.args.checked.now in
    let x = c.args.node.now in
    let k = c.args.number in
    let b = c.args.base in
    let m = c.args.engine.now in
    let vs = views m.values.items in
    let y = c.in-Some.asked.now in
    let xs = c.deref.result.now in
    let e = c.deref.ensures.value in
    let h = c.in-Some.ensures in
    goes_same p (tests p x k b) (tests p y 0 b) m c.test.result c.test.new.engine c.test.ensures (λ n s. tests_by p n x k xs e y h b s vs ((at (parts_of p n y) 0).test (drop b vs)) (place_doing the_place.Inner (doings p n (out-TypedNode y).parts.items)) (c.in-Inner.ensures n) refl)

pub returns-in-Field : goal.returns-in-Field
returns-in-Field t c =
    let p = c.args.checked.now in
    let x = c.args.node.now in
    let k = c.args.number in
    let b = c.args.base in
    let m = c.args.engine.now in
    let vs = views m.values.items in
    let y = c.in-Some.asked.now in
    let xs = c.deref.result.now in
    let e = c.deref.ensures.value in
    let h = c.in-Some.ensures in
    goes_same p (tests p x k b) (tests p y 0 b) m c.test-in-Field.result c.test-in-Field.new.engine c.test-in-Field.ensures (λ n s. tests_by p n x k xs e y h b s vs ((at (parts_of p n y) 0).test (drop b vs)) (place_doing (the_place.Field c.in-Field.field-0) (doings p n (out-TypedNode y).parts.items)) (c.in-Field.ensures n) refl)

pub returns-in-Element : goal.returns-in-Element
returns-in-Element t c =
    let p = c.args.checked.now in
    let x = c.args.node.now in
    let k = c.args.number in
    let b = c.args.base in
    let m = c.args.engine.now in
    let vs = views m.values.items in
    let y = c.in-Some.asked.now in
    let xs = c.deref.result.now in
    let e = c.deref.ensures.value in
    let h = c.in-Some.ensures in
    let us = views c.above.result.now in
    let eu : us ≡ drop b vs = c.above.ensures ∙ ap (λ (ws : List code.Value). drop b (views ws)) c.deref-in-Element.ensures.value in
    let o = InArray c.in-Element.length in
    goes_tested p (tests p x k b) m o (nth us 0 ∷ []) (λ n s. tests_by p n x k xs e y h b s vs (operate o (nth us 0 ∷ [])) (place_doing (the_place.Element c.in-Element.length) (doings p n (out-TypedNode y).parts.items)) (c.in-Element.ensures n) (ap (λ (ws : List Value). operate o (nth ws 0 ∷ [])) (sym eu))) c.test_array.result c.test_array.ensures

pub returns-in-Cell : goal.returns-in-Cell
returns-in-Cell t c =
    let p = c.args.checked.now in
    let x = c.args.node.now in
    let k = c.args.number in
    let b = c.args.base in
    let m = c.args.engine.now in
    let vs = views m.values.items in
    let y = c.in-Some.asked.now in
    let xs = c.deref.result.now in
    let e = c.deref.ensures.value in
    let h = c.in-Some.ensures in
    let us = views c.above-in-Cell.result.now in
    let eu : us ≡ drop b vs = c.above-in-Cell.ensures ∙ ap (λ (ws : List code.Value). drop b (views ws)) c.deref-in-Cell.ensures.value in
    goes_tested p (tests p x k b) m InSlice (nth us 0 ∷ nth us 1 ∷ []) (λ n s. tests_by p n x k xs e y h b s vs (operate InSlice (nth us 0 ∷ nth us 1 ∷ [])) (place_doing the_place.Cell (doings p n (out-TypedNode y).parts.items)) (c.in-Cell.ensures n) (ap (λ (ws : List Value). operate InSlice (nth ws 0 ∷ nth ws 1 ∷ [])) (sym eu))) c.test_slice.result c.test_slice.ensures

pub returns-in-Case : goal.returns-in-Case
returns-in-Case t c =
    let p = c.args.checked.now in
    let x = c.args.node.now in
    let k = c.args.number in
    let b = c.args.base in
    let m = c.args.engine.now in
    let vs = views m.values.items in
    let y = c.in-Some.asked.now in
    let xs = c.deref.result.now in
    let e = c.deref.ensures.value in
    let h = c.in-Some.ensures in
    let known = known_part x k xs e (length p.types.shapes) y h c.requires in
    goes_same p (tests p x k b) (lays p y (what.Matches 0 c.in-Case.values b)) m c.lay.result c.lay.new.self (c.lay.ensures p (known, tt)) (λ n s. tests_case p n x k xs e y h b s vs c.in-Case.values (c.in-Case.ensures n))

pub returns-in_ok-give-in-Otherwise : goal.returns-in_ok-give-in-Otherwise
returns-in_ok-give-in-Otherwise t c =
    let p = c.args.checked.now in
    let x = c.args.node.now in
    let k = c.args.number in
    let b = c.args.base in
    let m = c.args.engine.now in
    let vs = views m.values.items in
    let y = c.in-Some.asked.now in
    let xs = c.deref.result.now in
    let e = c.deref.ensures.value in
    let h = c.in-Some.ensures in
    goes_given p (tests p x k b) m c.give.new.self (tt {0}) (vs ++ Truth false ∷ []) c.in_ok-give-in-Otherwise.ensures.kept (c.in_ok-give-in-Otherwise.ensures.values ∙ ap (λ u. vs ++ u ∷ []) (view_truth false))
    (λ n s. tests_otherwise p n x k xs e y h b s vs (c.in-Otherwise.ensures n))

pub returns-in-Nothing : goal.returns-in-Nothing
returns-in-Nothing t c =
    let p = c.args.checked.now in
    let x = c.args.node.now in
    let k = c.args.number in
    let b = c.args.base in
    let m = c.args.engine.now in
    let vs = views m.values.items in
    let y = c.in-Some.asked.now in
    let xs = c.deref.result.now in
    let e = c.deref.ensures.value in
    let h = c.in-Some.ensures in
    goes_undecided p (tests p x k b) m (λ n s. is_undecided s vs ((at (parts_of p n x) k).test (drop b vs)) (test_some p n x k xs e y h (place_doing the_place.Nothing (doings p n (out-TypedNode y).parts.items)) (c.in-Nothing.ensures n) (drop b vs)) m.depth (views m.machine.frame.items) (world_view m.machine.world) m.machine.turns)
