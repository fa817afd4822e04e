use Rattle.std.proofs.Common.{◌≡◌, ◌<◌, ℕ, ◌+◌, suc, List, [], ◌∷◌, Option, take, drop, length, refl, sym, ap, ◌∙◌, subst, add-one, Ok, Err, arith}
use Rattle.std.specs.Prelude.{Box}
use Rattle.std.specs.declared.alloc.Global.{Global}
use Rattle.std.proofs.lemmas.Result.{err_from_is_err_and}
use Rattle.go_typed.specs.declared.node.TypedNode.{TypedNode}
use Rattle.go_meaning.specs.Values.{Value}
use Rattle.go_meaning.specs.Computations as meaning
use Rattle.go_meaning.specs.Computations.{Comp, then_do, looped}
use Rattle.go_meaning.specs.Doings.{at, stores}
use Rattle.go_meaning.specs.Operations.{Item, item, operate}
use Rattle.go_eval_plans.specs.Views.{items_view}
use Rattle.go_values.specs.declared.value.Value as code
use Rattle.go_values.specs.Views.{view, views}
use Rattle.go_values.specs.Worlds.{world_view}
use Rattle.go_eval_plans.specs.Machines.{outcome, ends, IsLeft}
use Rattle.go_eval_plans.specs.Programs.{doings}
use Rattle.go_eval_machine.specs.declared.task.Iteration.{Iteration}
use Rattle.go_eval_machine.specs.declared.task.What.TheVariants as what
use Rattle.go_eval_machine.specs.Tasks.{parts_of, items_from}
use Rattle.go_eval_machine.specs.Engines.{works, lays_value}
use Rattle.go_eval_machine.proofs.Public.{goes_behind, goes_stored, kept_itself, then_left}
use Rattle.go_eval.proofs.Ranging.{item_given, item_assigned, item_round}
use Rattle.go_eval_machine.specs.Tasks.{IsIteration}
use Rattle.go_eval_operations.specs.Places.{IsPlace}
use Rattle.go_eval.proofs.ranges.item_to.Goals as goal

pub returns : goal.returns
returns c =
    let p = c.args.checked.now in
    let x = c.args.node.now in
    let b = c.args.base in
    let g = c.args.iteration in
    let m = c.args.engine.now in
    let vs = views m.values.items in
    let M = c.store_all-answer.new.machine in
    let I = items_view g.value.items in
    let v = view g.value.operand in
    let ws = views c.in_ok-values.values.items in
    let w = world_view m.machine.world in
    let told : item (items_view c.deref.result.now.items) c.deref-2.result.now.next (view c.deref-4.result.now.operand) w ≡ item I g.value.next v w = ap (λ (i : Iteration). item (items_view i.items) c.deref-2.result.now.next (view c.deref-4.result.now.operand) w) c.deref.ensures ∙ (ap (λ (i : Iteration). item I i.next (view c.deref-4.result.now.operand) w) c.deref-2.ensures ∙ ap (λ (i : Iteration). item I g.value.next (view i.operand) w) c.deref-4.ensures) in
    let given : ws ≡ item I g.value.next v w = c.in_ok-values.ensures ∙ (c.in_ok-item.ensures.values ∙ told) in
    let us : views c.above.result.now ≡ drop b vs = c.above.ensures ∙ ap (λ (zs : List code.Value). drop b (views zs)) c.deref-7.ensures.value in
    let C : ℕ → Comp = λ n. then_do (operate (Item I g.value.next) (v ∷ [])) (λ zs. stores (take g.value.targets (parts_of p n x)) (drop b vs) zs) in
    let L : ℕ → Comp = λ n. looped (at (parts_of p n x) (suc g.value.targets)).value (items_from (parts_of p n x) g.value.targets I (suc g.value.next) v) in
    let within : c.deref-8.result.now.next < c.deref-9.result.now.count = omega (arith, ap (λ (i : Iteration). i.next) c.deref-8.ensures, ap (λ (i : Iteration). i.count) c.deref-9.ensures, c.requires.next) in
    let number : c.following.result ≡ g.value.next + 1 = c.following.ensures within ∙ ap (λ (i : Iteration). i.next + 1) c.deref-8.ensures in
    let made : c.deref_mut-2.result.now ≡ record g.value { next = g.value.next + 1 } = c.deref_mut-2.ensures.value ∙ (ap (λ (i : Iteration). record i { next = c.following.result }) c.deref_mut.ensures.value ∙ ap (λ (j : ℕ). record g.value { next = j }) number) in
    let g1 : Box Iteration Global = record g { value = record c.deref_mut-2.result.now { place = c.in_ok-item.item.next } } in
    let k = c.deref-5.result.now.targets in
    let targets : k ≡ g.value.targets = ap (λ (i : Iteration). i.targets) c.deref-5.ensures in
    goes_behind p (works p x b (what.ItemTo g)) (lays_value p x (what.ItemRound g1) (k + 1)) C L m m c.cut.new.self M (take b vs) c.lay_block.result c.lay_block.new.self (kept_itself m) c.cut.ensures.kept c.cut.ensures.values c.in_ok-answer.ensures.turns
    (λ n. item_given I g.value.next v (λ zs. stores (take g.value.targets (parts_of p n x)) (drop b vs) zs) ws m.depth m.machine given
    ∙ subst (λ (zs : List Value). outcome (stores (take g.value.targets (parts_of p n x)) zs ws) m.depth m.machine ≡ ends (meaning.Next []) M) us
    (subst (λ (j : ℕ). outcome (stores (take j (parts_of p n x)) (views c.above.result.now) ws) m.depth m.machine ≡ ends (meaning.Next []) M) targets
    (subst (λ (ys : List (Option TypedNode)). outcome (stores (take k (doings p n ys)) (views c.above.result.now) ws) m.depth m.machine ≡ ends (meaning.Next []) M) c.deref-6.ensures.value (c.in_ok-answer.ensures.is n m.depth))))
    (λ n s. item_assigned p n x b s vs g) (λ n s. item_round p n x b s vs g g1 (ap (λ (i : Iteration). i.targets) made) (ap (λ (i : Iteration). i.items) made) (ap (λ (i : Iteration). i.operand) made) (ap (λ (i : Iteration). i.next) made ∙ add-one g.value.next) (k + 1) (add-one k ∙ ap suc targets) (take b vs))
    c.lay_block.ensures

pub lay_block-requires : goal.lay_block-requires
lay_block-requires c =
    let g = c.args.iteration in
    let I = items_view g.value.items in
    let after = c.in_ok-item.item.next in
    let within : c.deref-8.result.now.next < c.deref-9.result.now.count = omega (arith, ap (λ (i : Iteration). i.next) c.deref-8.ensures, ap (λ (i : Iteration). i.count) c.deref-9.ensures, c.requires.next) in
    let number : c.following.result ≡ g.value.next + 1 = c.following.ensures within ∙ ap (λ (i : Iteration). i.next + 1) c.deref-8.ensures in
    let made : c.deref_mut-2.result.now ≡ record g.value { next = g.value.next + 1 } = c.deref_mut-2.ensures.value ∙ (ap (λ (i : Iteration). record i { next = c.following.result }) c.deref_mut.ensures.value ∙ ap (λ (j : ℕ). record g.value { next = j }) number) in
    let place : IsPlace I (view g.value.operand) (g.value.next + 1) after =
    subst (λ (i : Iteration). IsPlace I (view i.operand) (g.value.next + 1) after) c.deref-4.ensures
    (subst (λ (i : Iteration). IsPlace I (view c.deref-4.result.now.operand) (i.next + 1) after) c.deref-2.ensures
    (subst (λ (i : Iteration). IsPlace (items_view i.items) (view c.deref-4.result.now.operand) (c.deref-2.result.now.next + 1) after) c.deref.ensures c.in_ok-item.ensures.next)) in
    (c.requires.node, subst (λ (i : Iteration). IsIteration (record i { place = after })) (sym made) (record { count = c.requires.iteration.count; place = place }))

pub returns-in_err-answer : goal.returns-in_err-answer
returns-in_err-answer c =
    let p = c.args.checked.now in
    let x = c.args.node.now in
    let b = c.args.base in
    let g = c.args.iteration in
    let m = c.args.engine.now in
    let vs = views m.values.items in
    let M = c.store_all-answer.new.machine in
    let I = items_view g.value.items in
    let v = view g.value.operand in
    let ws = views c.in_ok-values.values.items in
    let q = err_from_is_err_and c.from_residual-in_err-answer.result c.from_residual-in_err-answer.ensures.1 in
    let e = c.in_err-answer.field-0.0 in
    let w = world_view m.machine.world in
    let told : item (items_view c.deref.result.now.items) c.deref-2.result.now.next (view c.deref-4.result.now.operand) w ≡ item I g.value.next v w = ap (λ (i : Iteration). item (items_view i.items) c.deref-2.result.now.next (view c.deref-4.result.now.operand) w) c.deref.ensures ∙ (ap (λ (i : Iteration). item I i.next (view c.deref-4.result.now.operand) w) c.deref-2.ensures ∙ ap (λ (i : Iteration). item I g.value.next (view i.operand) w) c.deref-4.ensures) in
    let given : ws ≡ item I g.value.next v w = c.in_ok-values.ensures ∙ (c.in_ok-item.ensures.values ∙ told) in
    let us : views c.above.result.now ≡ drop b vs = c.above.ensures ∙ ap (λ (zs : List code.Value). drop b (views zs)) c.deref-7.ensures.value in
    let k = c.deref-5.result.now.targets in
    let targets : k ≡ g.value.targets = ap (λ (i : Iteration). i.targets) c.deref-5.ensures in
    let C : ℕ → Comp = λ n. then_do (operate (Item I g.value.next) (v ∷ [])) (λ zs. stores (take g.value.targets (parts_of p n x)) (drop b vs) zs) in
    let L : ℕ → Comp = λ n. looped (at (parts_of p n x) (suc g.value.targets)).value (items_from (parts_of p n x) g.value.targets I (suc g.value.next) v) in
    rw (q.1, q.2) (goes_stored p (works p x b (what.ItemTo g)) (λ n. then_do (C n) (λ no. L n)) m m c.cut.new.self M (take b vs) (Err e) (kept_itself m) c.cut.ensures.kept c.cut.ensures.values c.in_err-answer.ensures.turns
    (λ n. then_left (C n) (λ no. L n) m.depth m.machine M e (subst (IsLeft e M) (sym (item_given I g.value.next v (λ zs. stores (take g.value.targets (parts_of p n x)) (drop b vs) zs) ws m.depth m.machine given))
    (subst (λ (zs : List Value). IsLeft e M (outcome (stores (take g.value.targets (parts_of p n x)) zs ws) m.depth m.machine)) us
    (subst (λ (j : ℕ). IsLeft e M (outcome (stores (take j (parts_of p n x)) (views c.above.result.now) ws) m.depth m.machine)) targets
    (subst (λ (ys : List (Option TypedNode)). IsLeft e M (outcome (stores (take k (doings p n ys)) (views c.above.result.now) ws) m.depth m.machine)) c.deref-6.ensures.value (c.in_err-answer.ensures.is n m.depth))))))
    (λ n s. item_assigned p n x b s vs g))
